-- A block that was asked and has come is held.
use Rattle.std.specs.Prelude.{ℕ, ◌-◌, ◌*◌, Option, Some, None}
use Rattle.mon_pool.specs.Region.{Held}
use Rattle.aoe_client.specs.declared.client.Slot.TheVariants.{Demand}
use Rattle.aoe_client.specs.Asking.{done_in, with_slot}
use Rattle.io_interpret.specs.Piece.{piece_end}
use Rattle.monitor_state.specs.declared.held.HeldPiece.{HeldPiece}
use Rattle.monitor_state.specs.declared.parts.Parts.{Parts}

-- the piece of a block that came: from a sector to the block's end, or to that of the read
abbrev pub piece_of : ℕ → ℕ → Parts → ℕ × Held → HeldPiece
piece_of sector end p came = record {
  first = sector;
  count = piece_end p.area sector end - sector;
  base = came.0 * p.area.block;
  lease = came.1;
  block = Some came.0;
}

-- the parts once what came is held
abbrev pub holding : Option (ℕ × Held) → ℕ → ℕ → Parts → Parts
holding None sector end p = p
holding (Some came) sector end p = record p {
  client = with_slot Demand None p.client;
  held = Some (piece_of sector end p came);
}

-- the parts once the block that was asked is held, where it has come
abbrev pub collected : ℕ → ℕ → Parts → Parts
collected sector end p = holding (done_in p.client.demand) sector end p
