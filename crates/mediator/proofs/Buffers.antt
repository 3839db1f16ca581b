-- What a call leaves of what the buffers hold.
use Rattle.std.proofs.Common.{◌≡◌, ℕ, true, false, List, [], Option, Some, None, sym, ap, ◌∙◌, subst}
use Rattle.std.specs.Prelude.{slice_index_or}
use Rattle.ata_taskfile.specs.declared.Step.{Step}
use Rattle.ata_taskfile.specs.declared.Stepped.{Stepped}
use Rattle.ata_taskfile.specs.Device.{Cell, Device}
use Rattle.aoe_client.specs.Asking.{Asking}
use Rattle.aoe_client.specs.Buffers.{BothHold}
use Rattle.mon_pool.specs.Region.{Region}
use Rattle.plain_drive.specs.Plain.{Plain, current, settled}
use Rattle.schedule_text.specs.declared.Item.{Item}
use Rattle.plain_run.specs.Plan.{planned}
use Rattle.streaming.specs.Monitor.{item_of}
use Rattle.monitor_state.specs.declared.state.State.{State}
use Rattle.monitor_state.specs.declared.state.State.TheVariants.{Guest, Monitor, Running, Raising, Moving}
use Rattle.monitor_state.specs.declared.state.Purpose.TheVariants as purpose
use Rattle.monitor_state.specs.declared.held.HeldPiece.{HeldPiece}
use Rattle.monitor_state.specs.declared.parts.Parts.{Parts}
use Rattle.monitor_state.specs.Buffered.{HasBuffers, ReadsSoFar, image_part}
use Rattle.monitor_state.specs.Seen.{Shows}
use Rattle.monitor_state.specs.Sectors.{IsPieceOf}
use Rattle.monitor_events.specs.Shown.{HasComeTo}
use Rattle.monitor_events.specs.Stepping.{device_after_step, ends_dummy, is_resting_state, parts_after_step, plan_due_of}
use Rattle.monitor_events.proofs.BuffersStepped.{buffers_stepped}
use Rattle.mediator.proofs.Sectors.{unseen_cells}

-- a held piece has the sectors of every drive with the same
piece_over_cells : (held : Option HeldPiece) (pool : Region) (g h : Device) → h.cells ≡ g.cells
    → IsPieceOf g pool held → IsPieceOf h pool held
piece_over_cells None pool g h same is = tt
piece_over_cells (Some held) pool g h same is = λ s above below.
    ap (λ (cells : List Cell). current (slice_index_or cells s (settled []))) same ∙ is s above below

-- and so have all buffers
pub buffers_over_cells : (image : List (List ℕ)) (s : State) (p : Parts) (d g h : Device) → h.cells ≡ g.cells
    → HasBuffers image s p d g → HasBuffers image s p d h
buffers_over_cells image s p d g h same has =
    record {
      whole = has.whole;
      held = piece_over_cells p.held p.pool g h same has.held;
      asked = has.asked;
      read = has.read;
    }

-- what an own read has read is nothing of what the client asks for
client_reads : (s : State) (p : Parts) (c : Asking) (d : Device) → ReadsSoFar s p d
    → ReadsSoFar s (record p { client = c }) d
client_reads (Guest side) p c d reads = tt
client_reads (Monitor side) p c d reads = tt
client_reads (Running side own purpose.Opening) p c d reads = tt
client_reads (Running side own (purpose.Piece first count lease)) p c d reads = record {
  origin = reads.origin;
  start = reads.start;
  whole = reads.whole;
  done = reads.done;
}
client_reads (Raising side dummy kind) p c d reads = tt
client_reads Moving p c d reads = tt

-- so a client that asks on, whose buffers hold what they did, keeps them
pub client_buffers : (image : List (List ℕ)) (s : State) (p : Parts) (c : Asking) (d g : Device)
    → BothHold (image_part image) c p.pool → HasBuffers image s p d g
    → HasBuffers image s (record p { client = c }) d g
client_buffers image s p c d g asked has =
    record { whole = has.whole; held = has.held; asked = asked; read = client_reads s p c d has.read }

-- a step of the drive keeps them too, where the call found the drive, and what it made of that
pub stepped_buffers_at : (image : List (List ℕ)) (s t : State) (p r : Parts) (kind : Step) (effect : Stepped)
    (old now : Plain) (d e : Device) (told : Option Item) (q : Plain) → now.device ≡ d
    → (ends_dummy s d ≡ false → t ≡ s) → (ends_dummy s d ≡ true → is_resting_state t ≡ true)
    → r ≡ parts_after_step s d p → e ≡ device_after_step s d → told ≡ plan_due_of s kind effect d
    → HasComeTo s p kind effect old now → Shows s p old.device old.memory q
    → HasBuffers image s p old.device q.device → HasBuffers image t r e (planned (item_of told) q).device
stepped_buffers_at image s t p r kind effect old now d e told q at stays rests parts device plan come shows has =
    let due = plan_due_of s kind effect now.device in
    let made = planned (item_of due) q in
    let from = buffers_stepped image s t p kind effect old now q come
    (λ apart. stays (ap (ends_dummy s) (sym at) ∙ apart))
    (λ ends. rests (ap (ends_dummy s) (sym at) ∙ ends)) has made
    (unseen_cells s p kind effect old now q come shows) in
    let same : due ≡ told = ap (plan_due_of s kind effect) at ∙ sym plan in
    subst (λ (r : Parts). HasBuffers image t r e (planned (item_of told) q).device) (sym parts)
    (subst (λ (e : Device). HasBuffers image t (parts_after_step s d p) e (planned (item_of told) q).device)
    (sym device)
    (subst (λ told. HasBuffers image t (parts_after_step s d p) (device_after_step s d)
    (planned (item_of told) q).device)
    same
    (subst (λ (x : Device). HasBuffers image t (parts_after_step s x p) (device_after_step s x) made.device) at from)))
