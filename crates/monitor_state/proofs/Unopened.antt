-- Until opening has ended.
use Rattle.std.proofs.Common.{◌≡◌, ℕ, true, false, sym, ◌∙◌}
use Rattle.std.proofs.lemmas.Bool.{true≢false}
use Rattle.ata_taskfile.specs.declared.Phase.{Phase}
use Rattle.ata_taskfile.specs.declared.Phase.TheVariants.{Reset, Idle, Busy, Ready}
use Rattle.ata_taskfile.specs.Device.{Device}
use Rattle.ata_taskfile.specs.Lawful.{is_in_reset}
use Rattle.own_pio.specs.declared.own.Own.{Own}
use Rattle.port_lease.specs.declared.view.View.{View}
use Rattle.port_lease.specs.Sides.{view_held}
use Rattle.monitor_state.specs.declared.state.State.{State}
use Rattle.monitor_state.specs.declared.state.State.TheVariants.{Guest, Monitor, Running, Raising, Moving}
use Rattle.monitor_state.specs.declared.state.Purpose.{Purpose}
use Rattle.monitor_state.specs.declared.state.Purpose.TheVariants as purpose
use Rattle.monitor_state.specs.declared.parts.Parts.{Parts}
use Rattle.monitor_state.specs.Fits.{FitsPurpose, FitsState, ReadsIn}
use Rattle.monitor_state.specs.Seen.{file_seen}
use Rattle.monitor_state.specs.State.{is_opened}

-- no own command reads a piece
pub reads_opened : (phase : Phase) (own : Own) (first count : ℕ) (v : View) (p : Parts)
    → ReadsIn phase own first count v p → is_opened p ≡ true
reads_opened Reset own first count v p reads = absurd reads
reads_opened Idle own first count v p reads = absurd reads
reads_opened (Busy order done) own first count v p reads = reads.opened
reads_opened (Ready order done left) own first count v p reads = absurd reads

purpose_waits : (why : Purpose) (own : Own) (v : View) (p : Parts) → FitsPurpose why own v p → is_opened p ≡ false
    → is_in_reset v.file.phase ≡ true
purpose_waits purpose.Opening own v p fits closed = fits.1
purpose_waits (purpose.Piece first count lease) own v p fits closed =
    absurd (true≢false (sym (reads_opened v.file.phase own first count v p fits) ∙ closed))

-- the guest sees a drive in its reset
pub seen_waits : (s : State) (p : Parts) (d : Device) → FitsState s p → is_opened p ≡ false
    → is_in_reset (file_seen s d).phase ≡ true
seen_waits (Guest side) p d fits closed = absurd (true≢false (sym fits.1 ∙ closed))
seen_waits (Monitor side) p d fits closed = fits.3.opened closed
seen_waits (Running side own why) p d fits closed = purpose_waits why own (view_held side) p fits.5 closed
seen_waits (Raising side dummy planned) p d fits closed = absurd (true≢false (sym fits.4 ∙ closed))
seen_waits Moving p d fits closed = absurd fits
