-- Destages and steps of the drive of which the guest sees nothing.
use Rattle.std.proofs.Common.{◌≡◌, ℕ, List, refl, sym, ap, ◌∙◌, subst, arith}
use Rattle.ata_taskfile.specs.declared.Phase.{Phase}
use Rattle.ata_taskfile.specs.declared.Step.{Step}
use Rattle.ata_taskfile.specs.declared.Stepped.{Stepped}
use Rattle.ata_taskfile.specs.Device.{Cell}
use Rattle.plain_drive.specs.Plain.{Plain, with_cells}
use Rattle.plain_drive.specs.Seen.{HasLetGo, HasStepped}
use Rattle.plain_drive.specs.Step.{step_made}
use Rattle.port_lease.specs.declared.view.View.{View}
use Rattle.port_lease.specs.declared.monitor_side.MonitorSide.{MonitorSide}
use Rattle.port_lease.specs.Seen.{bus_beside}
use Rattle.port_lease.specs.Sides.{view_held}
use Rattle.own_pio.specs.declared.job.OwnJob.{OwnJob}
use Rattle.own_pio.specs.declared.own.Own.{Own}
use Rattle.own_pio.specs.Own.{done_of, job_of}
use Rattle.own_pio.specs.Running.{IsRunning}
use Rattle.monitor_state.specs.declared.state.Purpose.{Purpose}
use Rattle.monitor_state.specs.declared.state.State.{State}
use Rattle.monitor_state.specs.declared.state.State.TheVariants.{Guest, Monitor, Running, Raising, Moving}
use Rattle.monitor_state.specs.declared.parts.Parts.{Parts}
use Rattle.monitor_state.specs.Drive.{RestsIn}
use Rattle.monitor_state.specs.Fits.{Fits}
use Rattle.monitor_state.specs.Seen.{Shows}
use Rattle.monitor_state.proofs.Shown.{same_seen}

-- no cell is seen
unseen_cells : (s : State) (p : Parts) (cells : List Cell) (old q : Plain) → Shows s p old.device old.memory q
    → Shows s p (with_cells cells old).device old.memory q
unseen_cells (Guest side) p cells old q shows =
    same_seen (Guest side) (Guest side) p p old.device (with_cells cells old).device old.memory q refl refl
    (λ matters. refl) refl refl shows
unseen_cells (Monitor side) p cells old q shows =
    same_seen (Monitor side) (Monitor side) p p old.device (with_cells cells old).device old.memory q refl refl
    (λ matters. refl) refl shows.served shows
unseen_cells (Running side own why) p cells old q shows =
    same_seen (Running side own why) (Running side own why) p p old.device (with_cells cells old).device old.memory q
    refl refl (λ matters. refl) refl shows.served shows
unseen_cells (Raising side dummy planned) p cells old q shows =
    same_seen (Raising side dummy planned) (Raising side dummy planned) p p old.device (with_cells cells old).device
    old.memory q refl refl (λ matters. refl) refl shows.served shows
unseen_cells Moving p cells old q shows =
    same_seen Moving Moving p p old.device (with_cells cells old).device old.memory q refl refl
    (λ matters. refl) refl refl shows

-- so no destage is
pub destage_unseen : (s : State) (p : Parts) (old new q : Plain) → Shows s p old.device old.memory q
    → HasLetGo old new → Shows s p new.device new.memory q
destage_unseen s p old new q shows went =
    subst (λ (t : Plain). Shows s p t.device t.memory q) (sym went.after)
    (unseen_cells s p new.device.cells old q shows)

-- a step leaves bus master and memory, where the drive rests or is in its own reset
resting_bus : (phase : Phase) (k : Step) (v : View) (p : Plain) → p.device.file.phase ≡ phase
    → RestsIn phase v p.device → (step_made k p).device.bus ≡ p.device.bus
resting_bus phase k v p is rests = grind arith

resting_memory : (phase : Phase) (k : Step) (v : View) (p : Plain) → p.device.file.phase ≡ phase
    → RestsIn phase v p.device → (step_made k p).memory ≡ p.memory
resting_memory phase k v p is rests = grind arith

-- and where an own command runs
running_bus : (job : OwnJob) (done : ℕ) (k : Step) (p : Plain) → IsRunning job done p.device
    → (step_made k p).device.bus ≡ p.device.bus
running_bus job done k p runs = grind arith

running_memory : (job : OwnJob) (done : ℕ) (k : Step) (p : Plain) → IsRunning job done p.device
    → (step_made k p).memory ≡ p.memory
running_memory job done k p runs = grind arith

module _ (p : Parts) (k : Step) (answer : Stepped) (old new q : Plain) (stepped : HasStepped k answer old new) where
  bus_came : (step_made k old).device.bus ≡ old.device.bus → new.device.bus ≡ old.device.bus
  bus_came same = ap (λ (t : Plain). t.device.bus) stepped.after ∙ same

  memory_came : (step_made k old).memory ≡ old.memory → old.memory ≡ new.memory
  memory_came same = sym (ap (λ (t : Plain). t.memory) stepped.after ∙ same)

  -- with no command of the monitor's the guest sees no step
  pub resting_unseen : (side : MonitorSide) → Fits (Monitor side) p old.device
      → Shows (Monitor side) p old.device old.memory q → Shows (Monitor side) p new.device new.memory q
  resting_unseen side fits shows =
      let v = view_held side in
      let phase = old.device.file.phase in
      let bus = bus_came (resting_bus phase k v old refl fits.device.0) in
      subst (λ (memory : List ℕ). Shows (Monitor side) p new.device memory q)
      (memory_came (resting_memory phase k v old refl fits.device.0))
      (same_seen (Monitor side) (Monitor side) p p old.device new.device old.memory q refl (ap (bus_beside v.bus) bus)
      (λ matters. refl) refl shows.served shows)

  -- nor while an own one runs
  pub running_unseen : (side : MonitorSide) (own : Own) (why : Purpose) → Fits (Running side own why) p old.device
      → Shows (Running side own why) p old.device old.memory q
      → Shows (Running side own why) p new.device new.memory q
  running_unseen side own why fits shows =
      let v = view_held side in
      let bus = bus_came (running_bus (job_of own) (done_of own) k old fits.device) in
      subst (λ (memory : List ℕ). Shows (Running side own why) p new.device memory q)
      (memory_came (running_memory (job_of own) (done_of own) k old fits.device))
      (same_seen (Running side own why) (Running side own why) p p old.device new.device old.memory q refl
      (ap (bus_beside v.bus) bus) (λ matters. refl) refl shows.served shows)
