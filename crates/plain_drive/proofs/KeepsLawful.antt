-- Every step leaves a lawful device lawful, where its sectors are whole.
use Rattle.std.proofs.Common.{◌≡◌, ℕ, Bool, true, false, ◌+◌, [], length, refl, arith}
use Rattle.std.specs.Prelude.{if◌then◌else◌, nat_lt, ◌==◌}
use Rattle.ata_taskfile.specs.declared.Kind.{Kind}
use Rattle.ata_taskfile.specs.declared.Kind.TheVariants as kind
use Rattle.ata_taskfile.specs.declared.Form.{Form}
use Rattle.ata_taskfile.specs.declared.Form.TheVariants.{NoMove, PioIn, PioOut, DmaIn, DmaOut}
use Rattle.ata_taskfile.specs.declared.Request.{Request}
use Rattle.ata_taskfile.specs.declared.Taken.TheVariants.{Good, Bad}
use Rattle.ata_taskfile.specs.declared.Phase.{Phase}
use Rattle.ata_taskfile.specs.declared.Phase.TheVariants.{Reset, Idle, Busy, Ready}
use Rattle.ata_taskfile.specs.declared.Refused.{Refused}
use Rattle.ata_taskfile.specs.declared.Step.{Step}
use Rattle.ata_taskfile.specs.declared.Step.TheVariants as step
use Rattle.ata_taskfile.specs.declared.task_file.TaskFile.{TaskFile}
use Rattle.ata_taskfile.specs.TaskFile.{line, holds_reset, reset_ended, refused, interrupted_in, ended_failed}
use Rattle.ata_taskfile.specs.Bus.{walk_ended}
use Rattle.ata_taskfile.specs.Data.{gives_words, takes_words, moves_by_bus}
use Rattle.ata_taskfile.specs.Device.{Device, with_bus}
use Rattle.ata_taskfile.specs.Lawful.{IsLawfulState, IsLawful}
use Rattle.ata_taskfile.proofs.Lawfulness.{raised_lawful}
use Rattle.ata_taskfile.proofs.Ends.{waiting_block_lawful, is_due, reset_ended_lawful, refused_lawful}
use Rattle.plain_drive.specs.Plain.{Plain, with_registers, with_block, sector_value}
use Rattle.plain_drive.specs.Laws.{HasWholeSectors}
use Rattle.plain_drive.specs.Step.{words_due, offered, ended, next_wanted, first_wanted, walked, sector_given, transferred, proceeded, good_step_in, bad_step_in, failure_shown, failure_bit, step_made}
use Rattle.plain_drive.proofs.Words.{identity-length}
use Rattle.plain_drive.proofs.Blocks.{length_words}
use Rattle.plain_drive.proofs.Ends.{ended_lawful, transferred_lawful, walked_lawful, wanted_lawful, first_wanted_lawful, given_up_lawful}

-- other registers, which are lawful
registers_lawful : (f : TaskFile) (p : Plain) → IsLawfulState f p.device.bus (length p.device.block) p.device.sectors
    → IsLawful (with_registers f p).device
registers_lawful f p l = raised_lawful (line p.device.file) (line f) f p.device.bus
    (length p.device.block) p.device.sectors l

-- a whole sector has a whole block of words
due-length : (k : Kind) (s : ℕ) (d : Device) → length (sector_value s d) ≡ 512 → length (words_due k s d) ≡ 256
due-length kind.Identify s d whole = identity-length 256 d.sectors
due-length kind.Read s d whole = length_words 256 (sector_value s d) whole
due-length kind.Write s d whole = length_words 256 (sector_value s d) whole
due-length kind.Verify s d whole = length_words 256 (sector_value s d) whole
due-length kind.Flush s d whole = length_words 256 (sector_value s d) whole
due-length kind.Features s d whole = length_words 256 (sector_value s d) whole

module _ (order : Request) (done : ℕ) (p : Plain) (e : p.device.file.phase ≡ Busy (Good order) done)
    (l : IsLawful p.device) where
  loaded-lawful : gives_words order.form ≡ true → HasWholeSectors p.device
      → IsLawful (offered order done (words_due order.kind (order.first + done) p.device) p).device
  loaded-lawful gives whole =
      let block = words_due order.kind (order.first + done) p.device in
      let many = due-length order.kind (order.first + done) p.device
      (whole (order.first + done) (is_due p.device.file p.device.bus (length p.device.block)
      p.device.sectors order done e gives l)) in
      registers_lawful (interrupted_in (Ready (Good order) done 256) p.device.file) (with_block block p)
      (rw many (waiting_block_lawful p.device.file p.device.bus (length p.device.block) p.device.sectors
      order done e gives l))

  next-lawful : takes_words order.form ≡ true → (more : Bool) → nat_lt done order.count ≡ more
      → IsLawful (if more then offered order done [] p else ended p).device
  next-lawful takes true is = registers_lawful (interrupted_in (Ready (Good order) done 256) p.device.file)
      (with_block [] p) (wanted_lawful p.device.file p.device.bus (length p.device.block) p.device.sectors
      order done e takes (grind arith) l)
  next-lawful takes false is = registers_lawful (interrupted_in Idle p.device.file) p
      (ended_lawful p.device.file p.device.bus (length p.device.block) p.device.sectors order done e (grind arith) l)

  received-lawful : takes_words order.form ≡ true → (first : Bool) → (done == 0) ≡ first
      → IsLawful (if first then first_wanted order p else next_wanted order done p).device
  received-lawful takes true is = registers_lawful (record p.device.file { phase = Ready (Good order) 0 256 })
      (with_block [] p) (first_wanted_lawful p.device.file p.device.bus (length p.device.block)
      p.device.sectors order done e (grind arith) takes l)
  received-lawful takes false is = next-lawful takes (nat_lt done order.count) refl

  moved-lawful : (moves : Bool) → moves ≡ true
      → IsLawful (ended (if moves then record p { device = with_bus (walk_ended p.device.bus) p.device } else p)).device
  moved-lawful true is = registers_lawful (interrupted_in Idle p.device.file)
      (record p { device = with_bus (walk_ended p.device.bus) p.device })
      (transferred_lawful p.device.file p.device.bus (length p.device.block) p.device.sectors order done e l)
  moved-lawful false is = absurd cc

  sector-lawful : moves_by_bus order.form ≡ true → nat_lt done order.count ≡ true
      → IsLawful (walked order done p).device
  sector-lawful moves more = walked_lawful p.device.file p.device.bus (length p.device.block) p.device.sectors
      order done p.memory e moves (grind arith) l

  given-lawful : moves_by_bus order.form ≡ true → (more : Bool) → nat_lt done order.count ≡ more
      → IsLawful (if more then sector_given order done p else transferred order p).device
  given-lawful moves true is = sector-lawful moves is
  given-lawful moves false is = moved-lawful (moves_by_bus order.form) moves

  fetched-lawful : moves_by_bus order.form ≡ true → (more : Bool) → nat_lt done order.count ≡ more
      → IsLawful (if more then walked order done p else transferred order p).device
  fetched-lawful moves true is = sector-lawful moves is
  fetched-lawful moves false is = moved-lawful (moves_by_bus order.form) moves

  proceeded-lawful : (form : Form) → order.form ≡ form → HasWholeSectors p.device
      → IsLawful (proceeded form order done p).device
  proceeded-lawful PioIn is whole = loaded-lawful (rw is refl) whole
  proceeded-lawful PioOut is whole = received-lawful (rw is refl) (done == 0) refl
  proceeded-lawful DmaIn is whole = given-lawful (rw is refl) (nat_lt done order.count) refl
  proceeded-lawful DmaOut is whole = fetched-lawful (rw is refl) (nat_lt done order.count) refl
  proceeded-lawful NoMove is whole = registers_lawful (interrupted_in Idle p.device.file) p
      (ended_lawful p.device.file p.device.bus (length p.device.block) p.device.sectors order done e (rw is refl) l)

  failed-lawful : (moves : Bool) → moves_by_bus order.form ≡ moves
      → IsLawful (with_registers (ended_failed (failure_bit order.kind) (failure_shown order done p.device.file))
      (if moves then record p { device = with_bus (walk_ended p.device.bus) p.device } else p)).device
  failed-lawful true is =
      registers_lawful (ended_failed (failure_bit order.kind) (failure_shown order done p.device.file))
      (record p { device = with_bus (walk_ended p.device.bus) p.device })
      (rw is at (given_up_lawful (failure_bit order.kind) p.device.file p.device.bus
      (length p.device.block) p.device.sectors order done e l))
  failed-lawful false is =
      registers_lawful (ended_failed (failure_bit order.kind) (failure_shown order done p.device.file)) p
      (rw is at (given_up_lawful (failure_bit order.kind) p.device.file p.device.bus
      (length p.device.block) p.device.sectors order done e l))

-- a reset that may end
reset-lawful : (p : Plain) → p.device.file.phase ≡ Reset → IsLawful p.device → (held : Bool)
    → holds_reset p.device.file ≡ held
    → IsLawful (if held then p else with_registers (reset_ended p.device.file) p).device
reset-lawful p e l true is = l
reset-lawful p e l false is = registers_lawful (reset_ended p.device.file) p
    (reset_ended_lawful p.device.file p.device.bus (length p.device.block) p.device.sectors e is l)

refused-lawful : (reason : Refused) (done : ℕ) (p : Plain) → p.device.file.phase ≡ Busy (Bad reason) done
    → IsLawful p.device
    → IsLawful (with_registers (refused reason p.device.file) p).device
refused-lawful reason done p e l =
    registers_lawful (refused reason p.device.file) p (refused_lawful reason p.device.file p.device.bus
    (length p.device.block) p.device.sectors (rw e refl) (rw e refl) l)

good_step_in-lawful : (phase : Phase) (p : Plain) → p.device.file.phase ≡ phase → HasWholeSectors p.device
    → IsLawful p.device → IsLawful (good_step_in phase p).device
good_step_in-lawful Reset p e whole l = reset-lawful p e l (holds_reset p.device.file) refl
good_step_in-lawful Idle p e whole l = l
good_step_in-lawful (Ready taken done left) p e whole l = l
good_step_in-lawful (Busy (Bad reason) done) p e whole l = refused-lawful reason done p e l
good_step_in-lawful (Busy (Good order) done) p e whole l = proceeded-lawful order done p e l order.form refl whole

bad_step_in-lawful : (phase : Phase) (p : Plain) → p.device.file.phase ≡ phase → IsLawful p.device
    → IsLawful (bad_step_in phase p).device
bad_step_in-lawful Reset p e l = l
bad_step_in-lawful Idle p e l = l
bad_step_in-lawful (Ready taken done left) p e l = l
bad_step_in-lawful (Busy (Bad reason) done) p e l = refused-lawful reason done p e l
bad_step_in-lawful (Busy (Good order) done) p e l = failed-lawful order done p e l (moves_by_bus order.form) refl

-- every step
pub step_made-lawful : (s : Step) (p : Plain) → HasWholeSectors p.device → IsLawful p.device
    → IsLawful (step_made s p).device
step_made-lawful step.Good p whole l = good_step_in-lawful p.device.file.phase p refl whole l
step_made-lawful step.Bad p whole l = bad_step_in-lawful p.device.file.phase p refl l
