-- An own command that was begun.
use Rattle.std.proofs.Common.{◌≡◌, ◌≤◌, ◌<◌, ℕ, Bool, if◌then◌else◌, [], ◌∷◌, true, false, Some, refl, sym, ap, ◌∙◌, subst, arith}
use Rattle.ata_taskfile.specs.declared.registers.TheConstants.{BSY}
use Rattle.ata_taskfile.specs.declared.Taken.{Taken}
use Rattle.ata_taskfile.specs.declared.Taken.TheVariants.{Good, Bad}
use Rattle.ata_taskfile.specs.declared.Phase.{Phase}
use Rattle.ata_taskfile.specs.declared.Phase.TheVariants.{Reset, Idle, Busy, Ready}
use Rattle.ata_taskfile.specs.TaskFile.{has_bit, status}
use Rattle.ata_taskfile.specs.Lawful.{is_in_reset}
use Rattle.ata_taskfile.specs.Order.{has_range}
use Rattle.ata_taskfile.specs.Device.{Device}
use Rattle.fill_bitmap.specs.declared.area.Area.{Area}
use Rattle.fill_bitmap.specs.Area.{IsSuitable}
use Rattle.fill_store.specs.Sectors.{IsOnKept}
use Rattle.fill_store.specs.Opening.{next_in_opening}
use Rattle.plain_drive.specs.Plain.{Plain}
use Rattle.plain_run.specs.Plan.{ActsAlong, planned}
use Rattle.port_lease.specs.declared.view.View.{View}
use Rattle.port_lease.specs.declared.monitor_side.MonitorSide.{MonitorSide}
use Rattle.port_lease.specs.Sides.{has_own, view_held}
use Rattle.own_pio.specs.declared.job.OwnJob.{OwnJob}
use Rattle.own_pio.specs.declared.job.OwnJob.TheVariants.{Read, Write, Flush}
use Rattle.own_pio.specs.declared.own.Own.{Own}
use Rattle.own_pio.specs.Job.{IsFit, command_of, job_order, polls_of}
use Rattle.own_pio.specs.Own.{done_of, job_of, polls_left}
use Rattle.own_pio.specs.Running.{IsRunning}
use Rattle.schedule_text.specs.declared.Item.{Item}
use Rattle.schedule_text.specs.declared.Item.TheVariants as item
use Rattle.schedule_text.specs.Taken.{command_item}
use Rattle.monitor_state.specs.declared.state.State.TheVariants.{Monitor, Running}
use Rattle.monitor_state.specs.declared.state.Purpose.TheVariants as purpose
use Rattle.monitor_state.specs.declared.parts.Parts.{Parts}
use Rattle.monitor_state.specs.State.{is_opened}
use Rattle.monitor_state.specs.Fits.{Fits}
use Rattle.monitor_state.specs.Hand.{HasInHand}
use Rattle.monitor_state.proofs.Standing.{unbusy_free}
use Rattle.streaming.specs.Told.{MayTell, command_told, tells_ready}
use Rattle.monitor_turn.specs.Turned.{HasTurned}
use Rattle.monitor_turn.specs.Work.{is_on_disk}
use Rattle.streaming.proofs.Untold.{never_both}
use Rattle.monitor_turn.proofs.Told.{free_idle, given_due, same_image}

-- a job on the sectors that the monitor keeps is fit, on the disk, and takes two polls at most
pub kept_fit : (area : Area) (job : OwnJob) → IsSuitable area → IsOnKept area job → IsFit job
kept_fit area (Read first count) suitable kept = record {
  named = λ _. record {
    some = omega (arith, kept.1);
    few = omega (arith, kept.1);
    below = omega (arith, kept.1, kept.0.on_disk, suitable.small_enough);
  };
}
kept_fit area (Write first count) suitable kept = record {
  named = λ _. record {
    some = omega (arith, kept.1);
    few = omega (arith, kept.1);
    below = omega (arith, kept.1, kept.0.on_disk, suitable.small_enough);
  };
}
kept_fit area Flush suitable kept = record { named = λ moves. absurd cc }

pub kept_on_disk : (area : Area) (job : OwnJob) → IsOnKept area job → is_on_disk job area.sectors ≡ true
kept_on_disk area (Read first count) kept = grind (arith, kept.0.on_disk, kept.1)
kept_on_disk area (Write first count) kept = grind (arith, kept.0.on_disk, kept.1)
kept_on_disk area Flush kept = refl

pub kept_polls : (area : Area) (job : OwnJob) → IsOnKept area job → (0 < polls_of job) × (polls_of job ≤ 2)
kept_polls area (Read first count) kept = (omega (arith, kept.1), omega (arith, kept.1))
kept_polls area (Write first count) kept = (omega arith, omega (arith, kept.1))
kept_polls area Flush kept = (omega arith, omega arith)

-- in the view's reset nothing pends
pub reset_calm : (phase : Phase) (v : View) (p : Parts) → is_in_reset phase ≡ true → HasInHand phase v p
    → v.file.pending ≡ false
reset_calm Reset v p resets has = has.1
reset_calm Idle v p resets has = absurd cc
reset_calm (Busy order done) v p resets has = absurd cc
reset_calm (Ready order done left) v p resets has = absurd cc

idle_by : (named : Bool) (byte first count : ℕ) (q : Plain)
    → let told = if named then item.Command byte first count else item.Command byte 0 0 in
    ActsAlong (told ∷ []) q × (planned (told ∷ []) q ≡ q)
idle_by true byte first count q = (_, refl)
idle_by false byte first count q = (_, refl)

-- the line of a command may be told, and is of that command
pub told_may : (byte : ℕ) (order : Taken) → MayTell (Some (command_item byte order))
told_may byte (Good order) = grind arith
told_may byte (Bad reason) = _

pub told_alone : (byte : ℕ) (order : Taken)
    → command_told (Some (command_item byte order)) ≡ command_item byte order ∷ []
told_alone byte (Good order) = grind arith
told_alone byte (Bad reason) = refl

pub told_unready : (byte : ℕ) (order : Taken) → tells_ready (Some (command_item byte order)) ≡ false
told_unready byte (Good order) = grind arith
told_unready byte (Bad reason) = refl

-- it tells of no step of a plain drive
pub told_idle : (byte : ℕ) (order : Taken) (q : Plain)
    → ActsAlong (command_item byte order ∷ []) q × (planned (command_item byte order ∷ []) q ≡ q)
told_idle byte (Good order) q = idle_by (has_range order.kind) byte order.first order.count q
told_idle byte (Bad reason) q = (_, refl)

-- the opening's next command has begun
pub opening_begun : (side after : MonitorSide) (own : Own) (job : OwnJob) (told : Item) (p : Parts) (d e : Device)
    → Fits (Monitor side) p d → is_opened p ≡ false → has_bit BSY (status d.file) ≡ false
    → next_in_opening p.opening ≡ Some job → IsOnKept p.opening.area job
    → has_own after ≡ true → view_held after ≡ view_held side → job_of own ≡ job → polls_left own ≡ polls_of job
    → IsRunning job 0 e → e.file.phase ≡ Busy (job_order job d.sectors) 0 → e.file.command ≡ command_of job
    → e.sectors ≡ d.sectors
    → ((sectors : ℕ) → is_on_disk job sectors ≡ true → told ≡ command_item (command_of job) (job_order job sectors))
    → HasTurned p d (Running after own purpose.Opening) (Some told) p e
opening_begun side after own job told p d e fits closed quiet next kept own_stands view job_is left runs at byte sectors
    told_is =
    let state = fits.parts.state in
    let v = view_held side in
    let resets = state.3.opened closed in
    let calm = reset_calm v.file.phase v p resets state.2 in
    let free = unbusy_free side p d fits.device quiet calm in
    let area : p.opening.area ≡ p.area = fits.parts.area.opening in
    let on : IsOnKept p.area job = subst (λ area. IsOnKept area job) area kept in
    let none : done_of own ≡ 0 = grind (arith, job_is, left) in
    let at_disk : is_on_disk job d.sectors ≡ true = rw fits.sectors (kept_on_disk p.area job on) in
    record {
      fits = record {
        parts = record {
          area = fits.parts.area;
          leased = fits.parts.leased;
          state = rw view (
            own_stands,
            state.1,
            state.2,
            subst IsFit (sym job_is) (kept_fit p.area job fits.parts.area.suitable on),
            omega (arith, left, (kept_polls p.area job on).0),
            (next ∙ ap Some (sym job_is), resets),
          );
        };
        device = subst (λ n. IsRunning (job_of own) n e) (sym none)
            (subst (λ j. IsRunning j 0 e) (sym job_is) runs);
        sectors = sectors ∙ fits.sectors;
      };
      between = _;
      commands =
          ap (λ i. command_told (Some i)) (told_is d.sectors at_disk)
          ∙ told_alone (command_of job) (job_order job d.sectors)
          ∙ sym (given_due d.file e.file (command_of job) (job_order job d.sectors) (free_idle d.file free) at byte);
      ready =
          ap (λ i. tells_ready (Some i)) (told_is d.sectors at_disk)
          ∙ told_unready (command_of job) (job_order job d.sectors) ∙ never_both (is_opened p);
      may = subst (λ i. MayTell (Some i)) (sym (told_is d.sectors at_disk))
          (told_may (command_of job) (job_order job d.sectors));
      image = same_image p;
    }
