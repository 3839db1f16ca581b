-- When what the guest gets of sectors is what a plain drive has there.
use Rattle.std.specs.Prelude.{ℕ, ◌≡◌, ◌+◌, ◌*◌, true, Option, Some, None}
use Rattle.ata_taskfile.specs.Device.{Device}
use Rattle.mon_pool.specs.Region.{Held, Region, leased_bytes}
use Rattle.aoe_client.specs.Asking.{done_in}
use Rattle.plain_drive.specs.Alike.{ReadAlike}
use Rattle.plain_drive.specs.Plain.{Plain}
use Rattle.redirect.specs.Scatter.{HoldsPiece}
use Rattle.monitor_state.specs.declared.state.State.{State}
use Rattle.monitor_state.specs.declared.held.HeldPiece.{HeldPiece}
use Rattle.monitor_state.specs.declared.parts.Parts.{Parts}
use Rattle.monitor_state.specs.State.{end_of_piece, is_guests}

-- the bytes of a held piece are those of a drive's sectors
abbrev pub IsPieceOf : Device → Region → Option HeldPiece → Type 0
IsPieceOf g pool None = Unit {0}
IsPieceOf g pool (Some held) =
    HoldsPiece (leased_bytes held.lease pool) held.base held.first (end_of_piece held) g

-- the bytes of a block of so many sectors that has come are those of a drive's sectors
abbrev pub IsBlockOf : Device → Region → ℕ → Option (ℕ × Held) → Type 0
IsBlockOf g pool block None = Unit {0}
IsBlockOf g pool block (Some came) =
    HoldsPiece (leased_bytes came.1 pool) (came.0 * block) (came.0 * block)
    (came.0 * block + block) g

-- each sector that the guest gets has the value that a plain drive has there: while the guest has the drive, those that
-- its command reads; else those of the piece that is held, and of the block that was asked and has come
pub record SectorsAgree (s : State) (p : Parts) (d : Device) (q : Plain) : Type 0 where
  pub drives : is_guests s ≡ true → ReadAlike d.file.phase d q.device
  pub held : IsPieceOf q.device p.pool p.held
  pub came : IsBlockOf q.device p.pool p.client.block (done_in p.client.demand)
