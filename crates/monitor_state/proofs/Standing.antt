-- What follows from how the drive stands.
use Rattle.std.proofs.Common.{◌≡◌, ℕ, ◌&&◌, ◌||◌, Bool, true, false, not, if◌then◌else◌, List, refl, sym, ap, ◌∙◌, subst}
use Rattle.std.proofs.lemmas.Bool.{true≢false}
use Rattle.std.proofs.Math.Bool.{and-false}
use Rattle.ata_taskfile.specs.declared.registers.TheConstants.{BSY, NIEN}
use Rattle.ata_taskfile.specs.declared.Phase.{Phase}
use Rattle.ata_taskfile.specs.declared.Phase.TheVariants.{Reset, Idle, Busy, Ready}
use Rattle.ata_taskfile.specs.declared.task_file.TaskFile.{TaskFile}
use Rattle.ata_taskfile.specs.TaskFile.{has_bit, is_at_work, line, masks_line, status, status_in}
use Rattle.ata_taskfile.specs.Device.{Cell, Device, powered_on}
use Rattle.ata_taskfile.specs.Lawful.{is_in_reset}
use Rattle.plain_drive.specs.Plain.{Plain, stored}
use Rattle.plain_drive.specs.Seen.{HasCut, durables}
use Rattle.port_lease.specs.declared.view.View.{View}
use Rattle.port_lease.specs.declared.monitor_side.MonitorSide.{MonitorSide}
use Rattle.port_lease.specs.Free.{is_free}
use Rattle.port_lease.specs.Sides.{view_held}
use Rattle.own_pio.specs.declared.own.Own.{Own}
use Rattle.dummy_read.specs.declared.dummy.Dummy.{Dummy}
use Rattle.guest_view.specs.Seen.{IsInStep}
use Rattle.monitor_state.specs.declared.state.Purpose.{Purpose}
use Rattle.monitor_state.specs.declared.state.Purpose.TheVariants as purpose
use Rattle.monitor_state.specs.declared.state.Plan.{Plan}
use Rattle.monitor_state.specs.declared.state.State.TheVariants.{Monitor, Running, Raising}
use Rattle.monitor_state.specs.declared.parts.Parts.{Parts}
use Rattle.monitor_state.specs.State.{is_opened}
use Rattle.monitor_state.specs.Drive.{IsResting, RestsIn}
use Rattle.monitor_state.specs.Hand.{HasInHand}
use Rattle.monitor_state.specs.Fits.{FitsDevice, FitsParts, FitsPurpose, ReadsIn}
use Rattle.monitor_state.specs.Start.{IsSideAtPowerOn}

-- where nothing pends the line is low
low : (f : TaskFile) → f.pending ≡ false → line f ≡ false
low f calm = ap (λ p. p && not (masks_line f)) calm

calm_in_step : (v : View) (d : Device) → d.file.pending ≡ false → v.file.pending ≡ false → (waits : Bool)
    → IsInStep waits v d
calm_in_step v d drive view waits = record {
  line_same = low d.file drive ∙ sym (low v.file view);
  pending = λ _. drive ∙ sym view;
}

resting_in_step : (pends : Bool) (v : View) (d : Device) → v.file.pending ≡ pends → IsResting v d → IsInStep false v d
resting_in_step true v d pends rests = record {
  line_same =
      ap (λ p. p && not (masks_line d.file)) rests.pending
      ∙ ap (λ m. v.file.pending && not m) (rests.masked pends);
  pending = λ _. rests.pending;
}
resting_in_step false v d pends rests = calm_in_step v d (rests.pending ∙ pends) pends false

rests_in_step : (phase : Phase) (v : View) (d : Device) → RestsIn phase v d → IsInStep false v d
rests_in_step Reset v d rests = calm_in_step v d rests.pending rests.calm false
rests_in_step Idle v d rests = resting_in_step v.file.pending v d refl rests
rests_in_step (Busy order done) v d rests = absurd rests
rests_in_step (Ready order done left) v d rests = absurd rests

-- view and drive are in step while no command of the monitor's stands
pub monitor_in_step : (side : MonitorSide) (p : Parts) (d : Device) → FitsDevice (Monitor side) p d
    → IsInStep false (view_held side) d
monitor_in_step side p d fits = rests_in_step d.file.phase (view_held side) d fits.0

reads_calm : (phase : Phase) (own : Own) (first count : ℕ) (v : View) (p : Parts) → ReadsIn phase own first count v p
    → v.file.pending ≡ false
reads_calm Reset own first count v p reads = absurd reads
reads_calm Idle own first count v p reads = absurd reads
reads_calm (Busy order done) own first count v p reads = reads.calm
reads_calm (Ready order done left) own first count v p reads = absurd reads

reset_calm : (phase : Phase) (v : View) (p : Parts) → is_in_reset phase ≡ true → HasInHand phase v p
    → v.file.pending ≡ false
reset_calm Reset v p resets has = has.1
reset_calm Idle v p resets has = absurd cc
reset_calm (Busy order done) v p resets has = absurd cc
reset_calm (Ready order done left) v p resets has = absurd cc

purpose_calm : (why : Purpose) (own : Own) (v : View) (p : Parts) → HasInHand v.file.phase v p → FitsPurpose why own v p
    → v.file.pending ≡ false
purpose_calm purpose.Opening own v p has fits = reset_calm v.file.phase v p fits.1 has
purpose_calm (purpose.Piece first count lease) own v p has fits =
    reads_calm v.file.phase own first count v p fits

-- nothing pends for the guest while an own command stands
pub running_calm : (side : MonitorSide) (own : Own) (why : Purpose) (p : Parts) → FitsParts (Running side own why) p
    → (view_held side).file.pending ≡ false
running_calm side own why p fits = purpose_calm why own (view_held side) p fits.state.2 fits.state.5

masked_low : (f : TaskFile) → f.control ≡ NIEN → line f ≡ false
masked_low f masked = ap (λ c. f.pending && not (has_bit NIEN c)) masked ∙ and-false f.pending

-- so both lines are low then
pub running_in_step : (side : MonitorSide) (own : Own) (why : Purpose) (p : Parts) (d : Device)
    → FitsParts (Running side own why) p → FitsDevice (Running side own why) p d → IsInStep false (view_held side) d
running_in_step side own why p d fits device =
    let calm = running_calm side own why p fits in record {
      line_same = masked_low d.file device.masked ∙ sym (low (view_held side).file calm);
      pending = λ pends. absurd (true≢false (sym pends ∙ ap (λ p. p || false) calm));
    }

-- and with a dummy read at work
pub raising_in_step : (side : MonitorSide) (dummy : Dummy) (planned : Plan) (p : Parts) (d : Device)
    → FitsParts (Raising side dummy planned) p → FitsDevice (Raising side dummy planned) p d
    → is_at_work d.file.phase ≡ true → IsInStep true (view_held side) d
raising_in_step side dummy planned p d fits device at_work =
    calm_in_step (view_held side) d (device.0.pending ∙ ap not at_work) fits.state.3 true

free_at_rest : (v : View) (d : Device) → v.file.pending ≡ false → IsResting v d → is_free d.file ≡ true
free_at_rest v d calm rests =
    ap (λ r. r && not d.file.pending) rests.rests ∙ ap not (rests.pending ∙ calm)

free_in : (phase : Phase) (v : View) (d : Device) → d.file.phase ≡ phase → RestsIn phase v d
    → v.file.pending ≡ false → is_in_reset phase ≡ false → is_free d.file ≡ true
free_in Reset v d is rests calm ended = absurd cc
free_in Idle v d is rests calm ended = free_at_rest v d calm rests
free_in (Busy order done) v d is rests calm ended = absurd rests
free_in (Ready order done left) v d is rests calm ended = absurd rests

out_of_reset : (resets : Bool) (p : Parts) (phase : Phase) → (is_in_reset phase ≡ true → is_opened p ≡ false)
    → is_opened p ≡ true → is_in_reset phase ≡ resets → resets ≡ false
out_of_reset true p phase closed opened is = absurd (true≢false (sym opened ∙ closed is))
out_of_reset false p phase closed opened is = refl

-- once opening has ended the drive is free where nothing pends for the guest
pub opened_free : (side : MonitorSide) (p : Parts) (d : Device) → FitsDevice (Monitor side) p d → is_opened p ≡ true
    → (view_held side).file.pending ≡ false → is_free d.file ≡ true
opened_free side p d fits opened calm =
    free_in d.file.phase (view_held side) d refl fits.0 calm
    (out_of_reset (is_in_reset d.file.phase) p d.file.phase fits.1 opened refl)

shows_busy : (phase : Phase) (v : View) (d : Device) → d.file.phase ≡ phase → RestsIn phase v d
    → has_bit BSY (status d.file) ≡ false → is_in_reset phase ≡ false
shows_busy Reset v d is rests quiet =
    let busy : has_bit BSY (status d.file) ≡ true =
    ap (λ (absent : Bool). has_bit BSY (if absent then 0 else status_in d.file.phase d.file.failed)) rests.selected
    ∙ ap (λ phase. has_bit BSY (status_in phase d.file.failed)) is in
    absurd (true≢false (sym busy ∙ quiet))
shows_busy Idle v d is rests quiet = refl
shows_busy (Busy order done) v d is rests quiet = refl
shows_busy (Ready order done left) v d is rests quiet = refl

-- and at any time where it shows no BSY
pub unbusy_free : (side : MonitorSide) (p : Parts) (d : Device) → FitsDevice (Monitor side) p d
    → has_bit BSY (status d.file) ≡ false → (view_held side).file.pending ≡ false → is_free d.file ≡ true
unbusy_free side p d fits quiet calm =
    free_in d.file.phase (view_held side) d refl fits.0 calm
    (shows_busy d.file.phase (view_held side) d refl fits.0 quiet)

-- a drive at power-on fits until opening has ended
pub power_on_fits : (side : MonitorSide) (p : Parts) (cells : List Cell) (sectors : ℕ) → IsSideAtPowerOn side
    → is_opened p ≡ false → FitsDevice (Monitor side) p (powered_on cells sectors)
power_on_fits side p cells sectors is closed = (
  record {
    control = refl;
    selected = refl;
    pending = refl;
    waits = ap (λ (v : View). is_in_reset v.file.phase) is.view;
    calm = ap (λ (v : View). v.file.pending) is.view;
  },
  λ resets. closed,
)

-- and so does one after a cut
pub cut_fits : (side : MonitorSide) (p : Parts) (old new : Plain) → IsSideAtPowerOn side → is_opened p ≡ false
    → HasCut old new → FitsDevice (Monitor side) p new.device
cut_fits side p old new is closed cut =
    subst (λ (q : Plain). FitsDevice (Monitor side) p q.device) (sym cut.after)
    (power_on_fits side p (stored (durables old.device.cells)) old.device.sectors is closed)
