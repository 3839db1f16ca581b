-- The drive's steps go on with the order in hand, or end it: what gets that order is the drive as before.
use Rattle.std.proofs.Common.{◌≡◌, ℕ, ◌==◌, Bool, true, false, [], if◌then◌else◌, refl}
use Rattle.std.specs.Prelude.{nat_lt}
use Rattle.ata_taskfile.specs.declared.Form.{Form}
use Rattle.ata_taskfile.specs.declared.Form.TheVariants.{NoMove, PioIn, PioOut, DmaIn, DmaOut}
use Rattle.ata_taskfile.specs.declared.Request.{Request}
use Rattle.ata_taskfile.specs.declared.Taken.TheVariants.{Good, Bad}
use Rattle.ata_taskfile.specs.declared.Phase.{Phase}
use Rattle.ata_taskfile.specs.declared.Phase.TheVariants.{Reset, Idle, Busy, Ready}
use Rattle.ata_taskfile.specs.declared.Step.{Step}
use Rattle.ata_taskfile.specs.declared.Step.TheVariants as step
use Rattle.ata_taskfile.specs.TaskFile.{holds_reset}
use Rattle.plain_drive.specs.Plain.{Plain}
use Rattle.plain_drive.specs.Step.{bad_step_in, first_wanted, good_step_in, offered, proceeded, sector_given, step_made, transferred, walked, ended}
use Rattle.monitor_state.specs.declared.parts.Parts.{Parts}
use Rattle.monitor_state.specs.Classes.{class_of_order, is_drives_class, is_drives_in}

module _ (p : Parts) (order : Request) (gets : is_drives_class (class_of_order (Good order) p) ≡ true) where
  wanted_order : (more : Bool) (done : ℕ) (q : Plain)
      → is_drives_in (if more then offered order done [] q else ended q).device.file.phase p ≡ true
  wanted_order true done q = gets
  wanted_order false done q = refl

  received_order : (first more : Bool) (done : ℕ) (q : Plain)
      → is_drives_in (if first then first_wanted order q else if more then offered order done [] q else ended
      q).device.file.phase p ≡ true
  received_order true more done q = gets
  received_order false more done q = wanted_order more done q

  given_order : (more : Bool) (done : ℕ) (q : Plain)
      → is_drives_in (if more then sector_given order done q else transferred order q).device.file.phase p ≡ true
  given_order true done q = gets
  given_order false done q = refl

  walked_order : (more : Bool) (done : ℕ) (q : Plain)
      → is_drives_in (if more then walked order done q else transferred order q).device.file.phase p ≡ true
  walked_order true done q = gets
  walked_order false done q = refl

  proceeded_order : (form : Form) (done : ℕ) (q : Plain)
      → is_drives_in (proceeded form order done q).device.file.phase p ≡ true
  proceeded_order NoMove done q = refl
  proceeded_order PioIn done q = gets
  proceeded_order PioOut done q = received_order (done == 0) (nat_lt done order.count) done q
  proceeded_order DmaIn done q = given_order (nat_lt done order.count) done q
  proceeded_order DmaOut done q = walked_order (nat_lt done order.count) done q

reset_order : (held : Bool) (q r : Plain) (p : Parts) → is_drives_in q.device.file.phase p ≡ true
    → is_drives_in r.device.file.phase p ≡ true → is_drives_in (if held then q else r).device.file.phase p ≡ true
reset_order true q r p one other = one
reset_order false q r p one other = other

good_order : (phase : Phase) (q : Plain) (p : Parts) → q.device.file.phase ≡ phase → is_drives_in phase p ≡ true
    → is_drives_in (good_step_in phase q).device.file.phase p ≡ true
good_order Reset q p is gets = reset_order (holds_reset q.device.file) q _ p (rw is refl) refl
good_order Idle q p is gets = rw is refl
good_order (Ready order done left) q p is gets = rw is gets
good_order (Busy (Bad reason) done) q p is gets = refl
good_order (Busy (Good order) done) q p is gets = proceeded_order p order gets order.form done q

bad_order : (phase : Phase) (q : Plain) (p : Parts) → q.device.file.phase ≡ phase → is_drives_in phase p ≡ true
    → is_drives_in (bad_step_in phase q).device.file.phase p ≡ true
bad_order Reset q p is gets = rw is refl
bad_order Idle q p is gets = rw is refl
bad_order (Ready order done left) q p is gets = rw is gets
bad_order (Busy (Bad reason) done) q p is gets = refl
bad_order (Busy (Good order) done) q p is gets = refl

pub step_order : (s : Step) (q : Plain) (p : Parts) → is_drives_in q.device.file.phase p ≡ true
    → is_drives_in (step_made s q).device.file.phase p ≡ true
step_order step.Good q p gets = good_order q.device.file.phase q p refl gets
step_order step.Bad q p gets = bad_order q.device.file.phase q p refl gets
