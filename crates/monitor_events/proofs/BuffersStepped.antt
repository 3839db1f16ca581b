-- What a step of the drive leaves in the buffers.
use Rattle.std.proofs.Common.{◌≡◌, ℕ, ◌*◌, Bool, true, false, if◌then◌else◌, List, [], take, Option, Some, None}
use Rattle.std.proofs.Common.{refl, sym, ap, ◌∙◌, subst}
use Rattle.std.specs.Prelude.{slice_index_or}
use Rattle.std.proofs.lemmas.Bool.{true≢false}
use Rattle.ata_taskfile.specs.declared.Step.{Step}
use Rattle.ata_taskfile.specs.declared.Stepped.{Stepped}
use Rattle.ata_taskfile.specs.declared.registers.TheConstants.{SECTOR_BYTES}
use Rattle.ata_taskfile.specs.Device.{Device}
use Rattle.mon_pool.specs.Region.{Region, leased_bytes}
use Rattle.plain_drive.specs.Plain.{Plain, current, settled}
use Rattle.port_lease.specs.declared.monitor_side.MonitorSide.{MonitorSide}
use Rattle.own_pio.specs.Own.{done_of, job_of}
use Rattle.own_pio.proofs.Stored.{stepped_kept}
use Rattle.dummy_read.specs.declared.dummy.Dummy.{Dummy}
use Rattle.monitor_state.specs.declared.held.HeldPiece.{HeldPiece}
use Rattle.monitor_state.specs.declared.parts.Parts.{Parts}
use Rattle.monitor_state.specs.declared.state.Plan.{Plan}
use Rattle.monitor_state.specs.declared.state.Purpose.TheVariants as purpose
use Rattle.monitor_state.specs.declared.state.State.{State}
use Rattle.monitor_state.specs.declared.state.State.TheVariants.{Guest, Monitor, Running, Raising, Moving}
use Rattle.monitor_state.specs.Buffered.{HasBuffers, ReadsSoFar}
use Rattle.monitor_state.specs.Sectors.{IsPieceOf}
use Rattle.monitor_state.specs.State.{is_guests}
use Rattle.monitor_events.specs.Shown.{HasComeTo}
use Rattle.monitor_events.specs.Stepping.{device_after_step, ends_dummy, is_resting_state}
use Rattle.monitor_events.specs.Stepping.{parts_after_step, parts_planned}

-- a piece is of each drive with the same sectors
piece_of_cells : (piece : Option HeldPiece) (pool : Region) (g h : Device) → h.cells ≡ g.cells
    → IsPieceOf g pool piece → IsPieceOf h pool piece
piece_of_cells None pool g h same is = tt
piece_of_cells (Some held) pool g h same is =
    λ s from below. ap (λ cells. current (slice_index_or cells s (settled []))) same ∙ is s from below

-- no own command reads where none stands
resting_reads : (t : State) (p : Parts) (d : Device) → is_resting_state t ≡ true → ReadsSoFar t p d
resting_reads (Guest side) p d rests = tt
resting_reads (Monitor side) p d rests = tt
resting_reads (Running side own why) p d rests = absurd (true≢false (sym rests))
resting_reads (Raising side dummy planned) p d rests = tt
resting_reads Moving p d rests = tt

-- once a dummy read ended, or before, the buffers hold what they held
raising_stepped : (ends : Bool) (image : List (List ℕ)) (side : MonitorSide) (dummy : Dummy) (planned : Plan)
    (t : State) (p : Parts) (d e g h : Device) → (ends ≡ false → t ≡ Raising side dummy planned)
    → (ends ≡ true → is_resting_state t ≡ true) → h.cells ≡ g.cells
    → HasBuffers image (Raising side dummy planned) p d g
    → HasBuffers image t (if ends then parts_planned planned p else p) e h
raising_stepped true image side dummy planned t p d e g h stays rests same has = record {
  held = piece_of_cells p.held p.pool g h same has.held;
  asked = has.asked;
  read = resting_reads t (parts_planned planned p) e (rests refl);
  whole = has.whole;
}
raising_stepped false image side dummy planned t p d e g h stays rests same has =
    subst (λ t. HasBuffers image t p e h) (sym (stays refl)) record {
      held = piece_of_cells p.held p.pool g h same has.held;
      asked = has.asked;
      read = tt;
      whole = has.whole;
    }

-- what an own read has put into its buffer so far stays
read_stepped : (s : State) (p : Parts) (kind : Step) (effect : Stepped) (old now : Plain)
    → HasComeTo s p kind effect old now → ReadsSoFar s p old.device → ReadsSoFar s p now.device
read_stepped (Guest side) p kind effect old now come read = tt
read_stepped (Monitor side) p kind effect old now come read = tt
read_stepped (Running side own purpose.Opening) p kind effect old now come read = tt
read_stepped (Running side own (purpose.Piece first count lease)) p kind effect old now come read = record {
  origin = read.origin;
  start = read.start;
  whole = read.whole;
  done = stepped_kept (job_of own) (done_of own) (take (SECTOR_BYTES * count) (leased_bytes lease p.pool)) read.start
      read.origin kind effect old now come.lawful come.fits.device read.done come.stepped;
}
read_stepped (Raising side dummy planned) p kind effect old now come read = tt
read_stepped Moving p kind effect old now come read = tt

-- where the state stays the buffers hold what they held
stays_stepped : (image : List (List ℕ)) (s t : State) (p : Parts) (kind : Step) (effect : Stepped)
    (old now : Plain) (g h : Device) → HasComeTo s p kind effect old now → t ≡ s → h.cells ≡ g.cells
    → HasBuffers image s p old.device g → HasBuffers image t p now.device h
stays_stepped image s t p kind effect old now g h come stays same has =
    subst (λ t. HasBuffers image t p now.device h) (sym stays) record {
      held = piece_of_cells p.held p.pool g h same has.held;
      asked = has.asked;
      read = read_stepped s p kind effect old now come has.read;
      whole = has.whole;
    }

-- a step leaves in the buffers what they hold, whether a dummy read ends by it or not; the sectors of the plain
-- drive change by those of the guest's own alone, while nothing is held
pub buffers_stepped : (image : List (List ℕ)) (s t : State) (p : Parts) (kind : Step) (effect : Stepped)
    (old now q : Plain) → HasComeTo s p kind effect old now → (ends_dummy s now.device ≡ false → t ≡ s)
    → (ends_dummy s now.device ≡ true → is_resting_state t ≡ true) → HasBuffers image s p old.device q.device
    → (r : Plain) → (is_guests s ≡ false → r.device.cells ≡ q.device.cells)
    → HasBuffers image t (parts_after_step s now.device p) (device_after_step s now.device) r.device
buffers_stepped image (Guest side) t p kind effect old now q come stays rests has r same =
    subst (λ t. HasBuffers image t p now.device r.device) (sym (stays refl)) record {
      held = subst (IsPieceOf r.device p.pool) (sym come.fits.parts.state.0.held) tt;
      asked = has.asked;
      read = tt;
      whole = has.whole;
    }
buffers_stepped image (Monitor side) t p kind effect old now q come stays rests has r same =
    stays_stepped image (Monitor side) t p kind effect old now q.device r.device come (stays refl) (same refl) has
buffers_stepped image (Running side own why) t p kind effect old now q come stays rests has r same =
    stays_stepped image (Running side own why) t p kind effect old now q.device r.device come (stays refl)
    (same refl) has
buffers_stepped image (Raising side dummy planned) t p kind effect old now q come stays rests has r same =
    raising_stepped now.device.file.pending image side dummy planned t p old.device
    (device_after_step (Raising side dummy planned) now.device) q.device r.device stays rests (same refl) has
buffers_stepped image Moving t p kind effect old now q come stays rests has r same = absurd come.fits.device
