-- The drive's steps and destages keep what fits.
use Rattle.std.proofs.Common.{◌≡◌, Bool, true, false, if◌then◌else◌, refl, sym, ap, ◌∙◌, subst}
use Rattle.std.proofs.lemmas.Bool.{true≢false}
use Rattle.ata_taskfile.specs.declared.registers.TheConstants.{NIEN, SRST}
use Rattle.ata_taskfile.specs.declared.Phase.{Phase}
use Rattle.ata_taskfile.specs.declared.Phase.TheVariants.{Reset, Idle, Busy, Ready}
use Rattle.ata_taskfile.specs.declared.Step.{Step}
use Rattle.ata_taskfile.specs.declared.Step.TheVariants as step
use Rattle.ata_taskfile.specs.declared.Stepped.{Stepped}
use Rattle.ata_taskfile.specs.declared.task_file.TaskFile.{TaskFile}
use Rattle.ata_taskfile.specs.TaskFile.{has_bit, masks_line, reset_ended, selects_absent}
use Rattle.ata_taskfile.specs.Device.{Device}
use Rattle.ata_taskfile.specs.Lawful.{IsLawful, is_in_reset}
use Rattle.plain_drive.specs.Plain.{Plain, with_registers}
use Rattle.plain_drive.specs.Step.{bad_step_in, good_step_in, step_made}
use Rattle.plain_drive.specs.Seen.{HasLetGo, HasStepped}
use Rattle.plain_drive.proofs.Dressed.{step_sectors}
use Rattle.port_lease.specs.declared.view.View.{View}
use Rattle.port_lease.specs.Free.{shows_rest}
use Rattle.port_lease.specs.View.{IsGiven, IsKept, known_features}
use Rattle.port_lease.specs.Sides.{view_held, view_kept}
use Rattle.port_lease.proofs.Steps.{step-given, step-kept}
use Rattle.own_pio.specs.Own.{done_of, job_of}
use Rattle.own_pio.proofs.Steps.{let_go_running, stepped_running}
use Rattle.dummy_read.specs.Dummy.{is_cancelled, sector_of}
use Rattle.dummy_read.proofs.Steps.{let_go_flies, stepped_flies}
use Rattle.monitor_state.specs.declared.parts.Parts.{Parts}
use Rattle.monitor_state.specs.declared.state.State.{State}
use Rattle.monitor_state.specs.declared.state.State.TheVariants.{Guest, Monitor, Running, Raising, Moving}
use Rattle.monitor_state.specs.State.{is_opened}
use Rattle.monitor_state.specs.Drive.{IsResting, IsStarting, RestsIn}
use Rattle.monitor_state.specs.Classes.{is_drives_in}
use Rattle.monitor_state.specs.Fits.{Fits, FitsDevice, FitsState}
use Rattle.monitor_state.proofs.DrivesOrder.{step_order}

starting_on : (v : View) (d e : Device) → e.file ≡ d.file → IsStarting v d → IsStarting v e
starting_on v d e same rests = record {
  control = ap (λ (f : TaskFile). f.control) same ∙ rests.control;
  selected = ap selects_absent same ∙ rests.selected;
  pending = ap (λ (f : TaskFile). f.pending) same ∙ rests.pending;
  waits = rests.waits;
  calm = rests.calm;
}

resting_on : (v : View) (d e : Device) → e.file ≡ d.file → IsResting v d → IsResting v e
resting_on v d e same rests = record {
  rests = ap shows_rest same ∙ rests.rests;
  pending = ap (λ (f : TaskFile). f.pending) same ∙ rests.pending;
  masked = λ pends. ap masks_line same ∙ rests.masked pends;
}

rests_on : (phase : Phase) (v : View) (d e : Device) → e.file ≡ d.file → RestsIn phase v d → RestsIn phase v e
rests_on Reset v d e same rests = starting_on v d e same rests
rests_on Idle v d e same rests = resting_on v d e same rests
rests_on (Busy order done) v d e same rests = absurd rests
rests_on (Ready order done left) v d e same rests = absurd rests

-- how a drive stands with no command of the monitor's, and that it is in its reset before opening has ended alone
abbrev RestsWell : View → Bool → Device → Type 0
RestsWell v opened d = RestsIn d.file.phase v d × (is_in_reset d.file.phase ≡ true → opened ≡ false)

rests_well_on : (v : View) (opened : Bool) (d e : Device) → e.file ≡ d.file → RestsWell v opened d
    → RestsWell v opened e
rests_well_on v opened d e same rests = (
  subst (λ (f : TaskFile). RestsIn f.phase v e) (sym same) (rests_on d.file.phase v d e same rests.0),
  λ resets. rests.1 (ap (λ (f : TaskFile). is_in_reset f.phase) (sym same) ∙ resets),
)

idle_stays : (s : Step) (q : Plain) → q.device.file.phase ≡ Idle → (step_made s q).device.file ≡ q.device.file
idle_stays step.Good q idle = ap (λ phase. (good_step_in phase q).device.file) idle
idle_stays step.Bad q idle = ap (λ phase. (bad_step_in phase q).device.file) idle

bad_stays : (q : Plain) → q.device.file.phase ≡ Reset → (step_made step.Bad q).device.file ≡ q.device.file
bad_stays q resets = ap (λ phase. (bad_step_in phase q).device.file) resets

good_ends : (q : Plain) → q.device.file.phase ≡ Reset → q.device.file.control ≡ 0
    → (step_made step.Good q).device.file ≡ reset_ended q.device.file
good_ends q resets control =
    ap (λ phase. (good_step_in phase q).device.file) resets
    ∙ ap (λ c. (if has_bit SRST c then q else with_registers (reset_ended q.device.file) q).device.file) control

ended_rests : (v : View) (opened : Bool) (d e : Device) → e.file ≡ reset_ended d.file → IsStarting v d
    → RestsWell v opened e
ended_rests v opened d e ended rests =
    subst (λ (f : TaskFile). RestsWell v opened (record e { file = f })) (sym ended) (
      record {
        rests = refl;
        pending = rests.pending ∙ sym rests.calm;
        masked = λ pends. absurd (true≢false (sym pends ∙ rests.calm));
      },
      λ resets. cc,
    )

-- a step leaves a drive resting, or ends its own reset
step_rests : (phase : Phase) (s : Step) (v : View) (opened : Bool) (q : Plain) → q.device.file.phase ≡ phase
    → RestsWell v opened q.device → RestsWell v opened (step_made s q).device
step_rests Reset step.Good v opened q is rests =
    let starting : IsStarting v q.device = subst (λ phase. RestsIn phase v q.device) is rests.0 in
    ended_rests v opened q.device (step_made step.Good q).device (good_ends q is starting.control) starting
step_rests Reset step.Bad v opened q is rests =
    rests_well_on v opened q.device (step_made step.Bad q).device (bad_stays q is) rests
step_rests Idle s v opened q is rests =
    rests_well_on v opened q.device (step_made s q).device (idle_stays s q is) rests
step_rests (Busy order done) s v opened q is rests = absurd (subst (λ phase. RestsIn phase v q.device) is rests.0)
step_rests (Ready order done left) s v opened q is rests = absurd (subst (λ phase. RestsIn phase v q.device) is rests.0)

-- no step changes Device Control
step_nien : (s : Step) (q : Plain) → masks_line (step_made s q).device.file ≡ masks_line q.device.file
step_nien s q =
    let f = q.device.file in
    let v : View = record { file = record f { features = known_features f }; bus = q.device.bus } in
    ap (has_bit NIEN) (sym (step-kept v s q record { control = refl; features = refl }).control)

device_stepped : (s : State) (p : Parts) (step : Step) (answer : Stepped) (old new : Plain) → IsLawful old.device
    → FitsState s p → FitsDevice s p old.device → HasStepped step answer old new → FitsDevice s p new.device
device_stepped (Guest side) p step answer old new lawful state fits stepped =
    let same = ap (λ (q : Plain). q.device) (sym stepped.after) in (
      subst (λ (d : Device). IsKept (view_kept side) d.file) same
          (step-kept (view_kept side) step old fits.0),
      subst (IsGiven (view_kept side)) same (step-given (view_kept side) step old fits.1),
      subst (λ (d : Device). is_drives_in d.file.phase p ≡ true) same (step_order step old p fits.2),
    )
device_stepped (Monitor side) p step answer old new lawful state fits stepped =
    rests_well_on (view_held side) (is_opened p) (step_made step old).device new.device
    (ap (λ (q : Plain). q.device.file) stepped.after)
    (step_rests old.device.file.phase step (view_held side) (is_opened p) old refl fits)
device_stepped (Running side own why) p step answer old new lawful state fits stepped =
    stepped_running (job_of own) (done_of own) step answer old new state.3 lawful fits stepped
device_stepped (Raising side dummy planned) p step answer old new lawful state fits stepped = (
  stepped_flies (sector_of dummy) (is_cancelled dummy) step answer old new fits.0 stepped,
  ap (λ (q : Plain). masks_line q.device.file) stepped.after
      ∙ step_nien step old
      ∙ fits.1,
)
device_stepped Moving p step answer old new lawful state fits stepped = absurd state

-- a step of the drive keeps what fits
pub stepped_fits : (s : State) (p : Parts) (step : Step) (answer : Stepped) (old new : Plain) → IsLawful old.device
    → Fits s p old.device → HasStepped step answer old new → Fits s p new.device
stepped_fits s p step answer old new lawful fits stepped = record {
  parts = fits.parts;
  device = device_stepped s p step answer old new lawful fits.parts.state fits.device stepped;
  sectors = ap (λ (q : Plain). q.device.sectors) stepped.after ∙ step_sectors step old ∙ fits.sectors;
}

device_let_go : (s : State) (p : Parts) (old new : Plain) → FitsDevice s p old.device → HasLetGo old new
    → FitsDevice s p new.device
device_let_go (Guest side) p old new fits went = (
  subst (λ (q : Plain). IsKept (view_kept side) q.device.file) (sym went.after) fits.0,
  subst (λ (q : Plain). IsGiven (view_kept side) q.device) (sym went.after) fits.1,
  subst (λ (q : Plain). is_drives_in q.device.file.phase p ≡ true) (sym went.after) fits.2,
)
device_let_go (Monitor side) p old new fits went =
    rests_well_on (view_held side) (is_opened p) old.device new.device
    (ap (λ (q : Plain). q.device.file) went.after) fits
device_let_go (Running side own why) p old new fits went =
    let_go_running (job_of own) (done_of own) old new fits went
device_let_go (Raising side dummy planned) p old new fits went = (
  let_go_flies (sector_of dummy) (is_cancelled dummy) old new fits.0 went,
  ap (λ (q : Plain). masks_line q.device.file) went.after ∙ fits.1,
)
device_let_go Moving p old new fits went = absurd fits

-- and so does a destage
pub let_go_fits : (s : State) (p : Parts) (old new : Plain) → Fits s p old.device → HasLetGo old new
    → Fits s p new.device
let_go_fits s p old new fits went = record {
  parts = fits.parts;
  device = device_let_go s p old new fits.device went;
  sectors = ap (λ (q : Plain). q.device.sectors) went.after ∙ fits.sectors;
}
