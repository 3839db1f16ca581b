-- What is left of opening: what it goes by, and how much it is at most.
use Rattle.std.proofs.Common.{◌≡◌, ◌≤◌, ◌+◌, ◌-◌, ◌*◌, ℕ, Bool, true, false, if◌then◌else◌, sym, ap, ◌∙◌, subst, arith}
use Rattle.std.specs.Prelude.{IfSome}
use Rattle.std.proofs.lemmas.Bool.{true≢false}
use Rattle.ata_taskfile.specs.declared.Access.{Access}
use Rattle.ata_taskfile.specs.declared.registers.TheConstants.{ERR}
use Rattle.ata_taskfile.specs.TaskFile.{has_bit, status}
use Rattle.ata_taskfile.specs.Device.{Device}
use Rattle.fill_bitmap.specs.declared.area.Area.{Area}
use Rattle.fill_bitmap.specs.Area.{bitmap_sectors_of}
use Rattle.fill_store.specs.declared.opening.OpeningStep.{OpeningStep}
use Rattle.fill_store.specs.declared.opening.OpeningStep.TheVariants.{ReadHeader, ReadBits, WriteZeros, FlushZeros, WriteHeader, FlushHeader, Nothing}
use Rattle.fill_store.specs.Opening.{OpeningState, job_at, jobs_at, jobs_of_opening}
use Rattle.port_lease.specs.declared.view.View.{View}
use Rattle.port_lease.specs.Sides.{view_held}
use Rattle.own_pio.specs.Job.{polls_of}
use Rattle.own_pio.specs.Own.{job_of, polls_left}
use Rattle.guest_view.specs.Drive.{drive_after}
use Rattle.guest_view.proofs.DrivesWork.{work_left}
use Rattle.monitor_state.specs.declared.state.State.{State}
use Rattle.monitor_state.specs.declared.state.State.TheVariants.{Guest, Monitor, Running, Raising, Moving}
use Rattle.monitor_state.specs.declared.state.Purpose.TheVariants as purpose
use Rattle.monitor_state.specs.declared.parts.Parts.{Parts}
use Rattle.monitor_state.specs.Fits.{FitsState}
use Rattle.monitor_state.specs.Opening.{left_of_command, opening_left}
use Rattle.monitor_state.specs.State.{is_opened}
use Rattle.monitor_state.proofs.Unopened.{reads_opened}

-- it is the same where opening stands as it did, and the drive shows what it showed
pub same_left : (s : State) (p r : Parts) (d e : Device) → r.opening ≡ p.opening → status e.file ≡ status d.file
    → opening_left s r e ≡ opening_left s p d
same_left (Guest side) p r d e opening shows = ap (λ (o : OpeningState). 4 * jobs_of_opening o) opening
same_left (Monitor side) p r d e opening shows = ap (λ (o : OpeningState). 4 * jobs_of_opening o) opening
same_left (Running side own why) p r d e opening shows =
    ap (λ (o : OpeningState). 4 * (jobs_of_opening o - 1) + left_of_command own e) opening
    ∙ ap (λ b. 4 * (jobs_of_opening p.opening - 1) + (if has_bit ERR b then 5 else polls_left own)) shows
same_left (Raising side dummy planned) p r d e opening shows = ap (λ (o : OpeningState). 4 * jobs_of_opening o) opening
same_left Moving p r d e opening shows = ap (λ (o : OpeningState). 4 * jobs_of_opening o) opening

-- an access on the monitor's side leaves Status as it is
pub same_status : (waits : Bool) (v : View) (a : Access) (d : Device)
    → status (drive_after waits v a d).file ≡ status d.file
same_status waits v a d = ap status (work_left waits v a d).file

-- no step has more jobs left than the first
pub jobs_most : (area : Area) (step : OpeningStep) → jobs_at area step ≤ bitmap_sectors_of area + 4
jobs_most area ReadHeader = omega arith
jobs_most area (ReadBits k) = omega arith
jobs_most area (WriteZeros k) = omega arith
jobs_most area FlushZeros = omega arith
jobs_most area WriteHeader = omega arith
jobs_most area FlushHeader = omega arith
jobs_most area Nothing = omega arith

-- each job moves one sector at most
polls_few : (area : Area) (step : OpeningStep) → IfSome (job_at area step) (λ job. polls_of job ≤ 2)
polls_few area ReadHeader = omega arith
polls_few area (ReadBits k) = omega arith
polls_few area (WriteZeros k) = omega arith
polls_few area FlushZeros = omega arith
polls_few area WriteHeader = omega arith
polls_few area FlushHeader = omega arith
polls_few area Nothing = tt

command_most : (failed : Bool) (left : ℕ) → left ≤ 2 → (if failed then 5 else left) ≤ 5
command_most true left few = omega arith
command_most false left few = omega (arith, few)

-- 4 for each job, and one more where the last command failed
pub left_most : (s : State) (p : Parts) (d : Device) → FitsState s p → is_opened p ≡ false
    → opening_left s p d ≤ 4 * bitmap_sectors_of p.opening.area + 17
left_most (Guest side) p d fits closed = omega (arith, jobs_most p.opening.area p.opening.step)
left_most (Monitor side) p d fits closed = omega (arith, jobs_most p.opening.area p.opening.step)
left_most (Running side own purpose.Opening) p d fits closed =
    let few : polls_of (job_of own) ≤ 2 =
    subst (λ next. IfSome next (λ job. polls_of job ≤ 2)) fits.5.0 (polls_few p.opening.area p.opening.step) in
    let left : polls_left own ≤ 2 = omega (arith, few, own.within) in
    omega (
      arith,
      jobs_most p.opening.area p.opening.step,
      command_most (has_bit ERR (status d.file)) (polls_left own) left,
    )
left_most (Running side own (purpose.Piece first count lease)) p d fits closed =
    let v = view_held side in
    absurd (true≢false (sym (reads_opened v.file.phase own first count v p fits.5) ∙ closed))
left_most (Raising side dummy planned) p d fits closed = omega (arith, jobs_most p.opening.area p.opening.step)
left_most Moving p d fits closed = absurd fits
