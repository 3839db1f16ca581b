-- The plain drive that the guest sees, and what view and drive make up.
use Rattle.std.proofs.Common.{◌≡◌, ◌≤◌, ◌||◌, ℕ, Bool, true, false, if◌then◌else◌, List, refl, sym, ap, ◌∙◌, subst, arith}
use Rattle.ata_taskfile.specs.declared.Taken.TheVariants.{Good, Bad}
use Rattle.ata_taskfile.specs.declared.Phase.{Phase}
use Rattle.ata_taskfile.specs.declared.Phase.TheVariants.{Reset, Idle, Busy, Ready}
use Rattle.ata_taskfile.specs.declared.Step.{Step}
use Rattle.ata_taskfile.specs.declared.task_file.TaskFile.{TaskFile}
use Rattle.ata_taskfile.specs.declared.bus_master.Bus.{Bus}
use Rattle.ata_taskfile.specs.Device.{Device}
use Rattle.ata_taskfile.specs.Lawful.{HasLawfulRegisters, IsLawful, movable_in}
use Rattle.fill_bitmap.specs.declared.area.Area.{Area}
use Rattle.plain_drive.specs.Alike.{IsAlike, ReadAlike, beside_command, block_matters, without_command}
use Rattle.plain_drive.specs.Plain.{Plain, plain}
use Rattle.plain_drive.specs.Step.{acts, step_made}
use Rattle.plain_drive.proofs.Likeness.{acts_beside, stepped_beside}
use Rattle.port_lease.specs.declared.view.View.{View}
use Rattle.port_lease.specs.declared.guest_side.GuestSide.{GuestSide}
use Rattle.port_lease.specs.Quiet.{IsQuiet}
use Rattle.port_lease.specs.Seen.{bus_beside, drive_on_guest_side, on_guest_side}
use Rattle.port_lease.specs.Sides.{view_kept}
use Rattle.port_lease.specs.View.{uses_bus}
use Rattle.guest_view.specs.Seen.{drive_on_monitor_side}
use Rattle.monitor_state.specs.declared.state.State.{State}
use Rattle.monitor_state.specs.declared.state.State.TheVariants.{Guest}
use Rattle.monitor_state.specs.declared.parts.Parts.{Parts}
use Rattle.monitor_state.specs.Seen.{Shows, block_seen, bus_seen, file_seen, is_refused_in, refuses}

-- a drive that the guest sees is seen wherever all looks the same
pub same_seen : (s t : State) (p r : Parts) (d e : Device) (memory : List ℕ) (q : Plain)
    → without_command (file_seen t e) ≡ without_command (file_seen s d) → bus_seen t e ≡ bus_seen s d
    → (block_matters (file_seen t e).phase ≡ true → block_seen t r e ≡ block_seen s p d) → r.area ≡ p.area
    → refuses t r ≡ false → Shows s p d memory q → Shows t r e memory q
same_seen s t p r d e memory q file bus block area served shows = record {
  file = shows.file ∙ sym file;
  bus = shows.bus ∙ sym bus;
  block = λ matters.
      shows.block (ap (λ (f : TaskFile). block_matters f.phase) (sym file) ∙ matters) ∙ sym (block matters);
  sectors = shows.sectors ∙ ap (λ (a : Area). a.sectors) (sym area);
  memory_is = shows.memory_is;
  served = served;
}

-- whether an order is refused is told by area and bitmap alone
pub same_refused : (phase : Phase) (p r : Parts) → r.area ≡ p.area → r.bitmap ≡ p.bitmap
    → is_refused_in phase r ≡ is_refused_in phase p
same_refused Reset p r area bitmap = refl
same_refused Idle p r area bitmap = refl
same_refused (Busy (Good request) done) p r area bitmap = rw (area, bitmap) refl
same_refused (Busy (Bad reason) done) p r area bitmap = refl
same_refused (Ready order done left) p r area bitmap = refl

-- a drive with the registers of a view, and the bus master of view and drive
module _ (v : View) (d : Device) (q : Plain) (file : without_command q.device.file ≡ without_command v.file)
    (bus : q.device.bus ≡ bus_beside v.bus d.bus) where
  -- but for the byte of the last command it is what they make up
  pub shown_beside : beside_command q ≡ beside_command (drive_on_monitor_side v d q)
  shown_beside = λ i. record q { device = record q.device { file = file i; bus = bus i } }

  -- a step has an effect on both or on none
  pub acts_there : (k : Step) → acts k q ≡ acts k (drive_on_monitor_side v d q)
  acts_there k = acts_beside (drive_on_monitor_side v d q) q shown_beside k

  -- and leads both to the same
  pub view_steps : (k : Step) (w : View) (e : Device) (r : Plain)
      → step_made k (drive_on_monitor_side v d q) ≡ drive_on_monitor_side w e r
      → beside_command (step_made k q) ≡ beside_command (drive_on_monitor_side w e r)
  view_steps k w e r is = stepped_beside (drive_on_monitor_side v d q) q shown_beside k ∙ ap beside_command is

-- the guest sees a drive that is, but for that byte, what a state's view and drive make up
pub beside_shown : (s : State) (p : Parts) (w : View) (e : Device) (q r : Plain) → file_seen s e ≡ w.file
    → bus_seen s e ≡ bus_beside w.bus e.bus → beside_command q ≡ beside_command (drive_on_monitor_side w e r)
    → (block_matters w.file.phase ≡ true → r.device.block ≡ block_seen s p e) → r.device.sectors ≡ p.area.sectors
    → refuses s p ≡ false → Shows s p e r.memory q
beside_shown s p w e q r file bus same block sectors served = record {
  file = ap (λ (t : Plain). t.device.file) same ∙ ap without_command (sym file);
  bus = ap (λ (t : Plain). t.device.bus) same ∙ sym bus;
  block = λ matters. ap (λ (t : Plain). t.device.block) same
      ∙ block (ap (λ (f : TaskFile). block_matters f.phase) (sym file) ∙ matters);
  sectors = ap (λ (t : Plain). t.device.sectors) same ∙ sectors;
  memory_is = ap (λ (t : Plain). t.memory) same;
  served = served;
}

-- on the guest's side a drive that it sees is alike the one that it has there, where the sectors that are read are
pub shown_alike : (side : GuestSide) (p : Parts) (d : Device) (memory : List ℕ) (q : Plain)
    → d.sectors ≡ p.area.sectors → Shows (Guest side) p d memory q → ReadAlike d.file.phase d q.device
    → IsAlike (drive_on_guest_side (view_kept side) (plain d memory)) q
shown_alike side p d memory q sectors shows values = record {
  file = shows.file;
  bus = shows.bus;
  block = shows.block;
  sectors = shows.sectors ∙ sym sectors;
  memory = shows.memory_is;
  values = values;
}

-- and a drive that is alike is one that it sees
pub alike_shown : (side : GuestSide) (p : Parts) (d : Device) (memory : List ℕ) (q : Plain)
    → d.sectors ≡ p.area.sectors → IsAlike (drive_on_guest_side (view_kept side) (plain d memory)) q
    → Shows (Guest side) p d memory q
alike_shown side p d memory q sectors alike = record {
  file = alike.file;
  bus = alike.bus;
  block = alike.block;
  sectors = alike.sectors ∙ sectors;
  memory_is = alike.memory;
  served = refl;
}

registers_there : (moves : Bool) (kept b : Bus) (f : TaskFile) → IsQuiet kept → HasLawfulRegisters f b
    → HasLawfulRegisters f (if moves then record b { error = kept.error || b.error } else bus_beside kept b)
registers_there true kept b f quiet lawful = record {
  kept = lawful.kept;
  held = lawful.held;
  no_error = lawful.no_error;
  not_failed = lawful.not_failed;
  selected = lawful.selected;
  acknowledged = lawful.acknowledged;
  goes_on = lawful.goes_on;
  pointer = lawful.pointer;
  active = lawful.active;
  walking = lawful.walking;
  moved = lawful.moved;
}
registers_there false kept b f quiet lawful = record {
  kept = lawful.kept;
  held = lawful.held;
  no_error = lawful.no_error;
  not_failed = lawful.not_failed;
  selected = lawful.selected;
  acknowledged = lawful.acknowledged;
  goes_on = lawful.goes_on;
  pointer = quiet.pointer;
  active = quiet.active;
  walking = quiet.walking;
  moved = subst (λ n. n ≤ movable_in f.phase) (sym quiet.unmoved) (omega arith);
}

-- a lawful drive is one on the guest's side
pub lawful_there : (side : GuestSide) (d : Device) → IsLawful d → IsLawful (on_guest_side (view_kept side) d)
lawful_there side d lawful =
    let v = view_kept side in record {
      registers = registers_there (uses_bus v) v.bus d.bus d.file side.quiet lawful.registers;
      within = lawful.within;
      block = lawful.block;
      pairs = lawful.pairs;
    }
