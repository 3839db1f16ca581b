-- The sectors to which the order in hand brings data.
use Rattle.std.proofs.Common.{◌≡◌, ℕ, ◌+◌, Bool, true, false, zero, suc, List, [], ◌∷◌, Option, Some, None, Ok, Err, refl, sym, ap, ◌∙◌, arith}
use Rattle.std.specs.Prelude.{if◌then◌else◌, ◌&&◌, ◌||◌, ◌==◌, nat_lt}
use Rattle.std.proofs.lemmas.Bool.{and_parts, or_parts}
use Rattle.ata_taskfile.specs.declared.Kind.{Kind}
use Rattle.ata_taskfile.specs.declared.Form.{Form}
use Rattle.ata_taskfile.specs.declared.Form.TheVariants.{NoMove, PioIn, PioOut, DmaIn, DmaOut}
use Rattle.ata_taskfile.specs.declared.Reg.{Reg}
use Rattle.ata_taskfile.specs.declared.Reg.TheVariants as reg
use Rattle.ata_taskfile.specs.declared.Request.{Request}
use Rattle.ata_taskfile.specs.declared.Refused.TheVariants.{Abort, NotFound}
use Rattle.ata_taskfile.specs.declared.Taken.{Taken}
use Rattle.ata_taskfile.specs.declared.Taken.TheVariants.{Good, Bad}
use Rattle.ata_taskfile.specs.declared.Phase.{Phase}
use Rattle.ata_taskfile.specs.declared.Phase.TheVariants.{Reset, Idle, Busy, Ready}
use Rattle.ata_taskfile.specs.declared.Step.{Step}
use Rattle.ata_taskfile.specs.declared.Step.TheVariants as step
use Rattle.ata_taskfile.specs.declared.Wrote.{Wrote}
use Rattle.ata_taskfile.specs.declared.Wrote.TheVariants.{Stored, Ignored, Command, ResetBegun}
use Rattle.ata_taskfile.specs.declared.task_file.TaskFile.{TaskFile}
use Rattle.ata_taskfile.specs.TaskFile.{is_of_bus, wrote, after_write, stored, takes_no_command, selects_absent, is_at_work, has_bit, in_reset, control_wrote, holds_reset, reset_ended}
use Rattle.ata_taskfile.specs.declared.registers.TheConstants.{SRST}
use Rattle.ata_taskfile.specs.Bus.{bus_written}
use Rattle.ata_taskfile.specs.Data.{phase_after_read, phase_after_write}
use Rattle.ata_taskfile.specs.Order.{Row, Inputs, inputs, has_range, row_of, order_in, order_of, taken, request_of, within, is_accepted}
use Rattle.ata_taskfile.specs.Device.{Device, with_bus, in_hand, after_wrote, after_read8, after_write8, after_read_word, after_write_word}
use Rattle.ata_taskfile.specs.Lawful.{is_just_taken, is_possible, moves_in}
use Rattle.ata_taskfile.proofs.Lawfulness.{order-possible}
use Rattle.plain_drive.specs.Plain.{Plain, with_registers}
use Rattle.plain_drive.specs.Words.{after_words, after_written}
use Rattle.plain_drive.specs.Step.{good_step_in, bad_step_in, step_made, proceeded, sector_given, transferred, walked, first_wanted, next_wanted, offered, ended}
use Rattle.schedule_text.specs.declared.Item.TheVariants as item
use Rattle.schedule_text.specs.Taken.{command_item, commands_due}
use Rattle.plain_run.specs.Written.{is_outward, is_within, row_writes, writes_sectors, names_write, items_name}

-- an order brings data to this sector
abbrev pub aims_at : ℕ → Taken → Bool
aims_at s (Good order) = is_outward order.form && is_within order.first order.count s
aims_at s (Bad reason) = false

-- the order in hand does
abbrev pub aims_in : ℕ → Phase → Bool
aims_in s Reset = false
aims_in s Idle = false
aims_in s (Busy order done) = aims_at s order
aims_in s (Ready order done left) = aims_at s order

-- a possible order that brings data has a range
outward_ranged : (kind : Kind) (form : Form) → moves_in kind form ≡ true → is_outward form ≡ true
    → has_range kind ≡ true
outward_ranged kind form possible outward = grind arith

-- where a Command write isn't ignored, no command was just taken
none_taken : (phase : Phase) (absent : Bool) → (takes_no_command phase || absent) ≡ false → is_just_taken phase ≡ false
none_taken phase absent e = grind arith

module _ (s : ℕ) where
  -- words of Data leave the order, or end it
  pub read_away : (phase : Phase) → aims_in s phase ≡ false → aims_in s (phase_after_read phase) ≡ false
  read_away phase away = grind arith

  pub write_away : (phase : Phase) → aims_in s phase ≡ false → aims_in s (phase_after_write phase) ≡ false
  write_away phase away = grind arith

  pub words_away : (n : ℕ) (d : Device) → aims_in s d.file.phase ≡ false
      → aims_in s (after_words n d).file.phase ≡ false
  unfolding after_words
  words_away zero d away = away
  words_away (suc n) d away = words_away n (after_read_word d) (read_away d.file.phase away)

  pub written_away : (words : List ℕ) (d : Device) → aims_in s d.file.phase ≡ false
      → aims_in s (after_written words d).file.phase ≡ false
  unfolding after_written
  written_away [] d away = away
  written_away (w ∷ words) d away = written_away words (after_write_word w d) (write_away d.file.phase away)

  pub read8_away : (r : Reg) (d : Device) → aims_in s d.file.phase ≡ false
      → aims_in s (after_read8 r d).file.phase ≡ false
  read8_away r d away = grind arith

  -- a write of a register leaves the order, or a reset ends it, but for a command that it takes
  reset_away : (phase : Phase) (f : TaskFile) → aims_in s f.phase ≡ false → aims_in s (in_reset phase f).phase ≡ false
  reset_away phase f away = grind arith

  stored_away : (r : Reg) (v : ℕ) (f : TaskFile) → aims_in s f.phase ≡ false → aims_in s (stored r v f).phase ≡ false
  stored_away reg.Alternate v f away = grind (arith, reset_away)
  stored_away r v f away = away

  after_write_away : (r : Reg) (v : ℕ) (f : TaskFile) → aims_in s f.phase ≡ false
      → aims_in s (after_write r v f).phase ≡ false
  after_write_away r v f away = let one = stored_away r v f away in grind arith

  -- an order of a row whose command line doesn't name the sector doesn't bring data to it
  named_away : (byte : ℕ) (order : Request) (outward : Bool) → is_outward order.form ≡ outward
      → writes_sectors byte ≡ outward
      → is_possible (Good order) ≡ true → names_write s (command_item byte (Good order)) ≡ false
      → outward && is_within order.first order.count s ≡ false
  named_away byte order false is writing possible unnamed = refl
  named_away byte order true is writing possible unnamed =
      let ranged = outward_ranged order.kind order.form (and_parts _ _ possible).0 is in
      let line : command_item byte (Good order) ≡ item.Command byte order.first order.count
      = ap (λ ranged. if ranged then item.Command byte order.first order.count else item.Command byte 0 0) ranged in
      sym (ap (λ writing. writing && is_within order.first order.count s) writing) ∙ sym (ap (names_write s) line)
      ∙ unnamed

  request_away : (byte : ℕ) (order : Request) → writes_sectors byte ≡ is_outward order.form
      → is_possible (Good order) ≡ true → names_write s (command_item byte (Good order)) ≡ false
      → aims_at s (Good order) ≡ false
  request_away byte order writing possible unnamed = named_away byte order (is_outward order.form)
      refl writing possible unnamed

  within_away : (byte : ℕ) (order : Request) (beyond : Bool) → writes_sectors byte ≡ is_outward order.form
      → is_possible (taken (if beyond then Err NotFound else Ok order)) ≡ true
      → names_write s (command_item byte (taken (if beyond then Err NotFound else Ok order))) ≡ false
      → aims_at s (taken (if beyond then Err NotFound else Ok order)) ≡ false
  within_away byte order true writing possible unnamed = refl
  within_away byte order false writing possible unnamed = request_away byte order writing possible unnamed

  accepted_away : (byte n : ℕ) (order : Request) (accepted : Bool) → writes_sectors byte ≡ is_outward order.form
      → is_possible (taken (if accepted then within n order else Err Abort)) ≡ true
      → names_write s (command_item byte (taken (if accepted then within n order else Err Abort))) ≡ false
      → aims_at s (taken (if accepted then within n order else Err Abort)) ≡ false
  accepted_away byte n order false writing possible unnamed = refl
  accepted_away byte n order true writing possible unnamed = within_away byte order
      (nat_lt n (order.first + order.count)) writing
      possible unnamed

  row_away : (row : Option Row) (byte n : ℕ) (i : Inputs) → row_of byte ≡ row
      → is_possible (taken (order_in row i n)) ≡ true
      → names_write s (command_item byte (taken (order_in row i n))) ≡ false
      → aims_at s (taken (order_in row i n)) ≡ false
  row_away None byte n i is possible unnamed = refl
  row_away (Some row) byte n i is possible unnamed =
      accepted_away byte n (request_of row i) (is_accepted row.kind row.extended i) (ap row_writes is) possible unnamed

  order_away : (byte n : ℕ) (i : Inputs) → names_write s (command_item byte (taken (order_of byte i n))) ≡ false
      → aims_at s (taken (order_of byte i n)) ≡ false
  order_away byte n i unnamed = row_away (row_of byte) byte n i refl (order-possible byte n i) unnamed

  -- a command that is taken, outside of which no other is in hand, has its line
  command_away : (ignored : Bool) (v byte : ℕ) (d : Device)
      → (takes_no_command d.file.phase || selects_absent d.file) ≡ ignored
      → (if ignored then Ignored else Command v) ≡ Command byte
      → items_name s (commands_due d.file
      (in_hand byte d.sectors (if ignored then d.file else stored reg.Status v d.file))) ≡ false
      → aims_in s (in_hand byte d.sectors (if ignored then d.file else stored reg.Status v d.file)).phase ≡ false
  command_away true v byte d e w unnamed = absurd cc
  command_away false v byte d e w unnamed =
      let same : v ≡ byte = cc in
      let before = none_taken d.file.phase (selects_absent d.file) e in
      let order : Taken = taken (order_of byte (inputs (stored reg.Status v d.file)) d.sectors) in
      let line : names_write s (command_item v order) || false ≡ false
      = sym (ap (λ taken_before. items_name s (if taken_before then [] else command_item v order ∷ [])) before)
      ∙ unnamed in
      order_away byte d.sectors (inputs (stored reg.Status v d.file))
      (ap (λ b. names_write s (command_item b order)) (sym same)
      ∙ (or_parts (names_write s (command_item v order)) false line).0)

  -- no other write takes one
  no_command : (ignored : Bool) (byte : ℕ) → (if ignored then Ignored else Stored) ≡ Command byte → ⊥
  no_command true byte e = cc
  no_command false byte e = cc

  no_command_control : (srst : Bool) (phase : Phase) (byte : ℕ)
      → (if srst then control_wrote phase else Stored) ≡ Command byte → ⊥
  no_command_control srst phase byte e = grind arith

  taken_away : (r : Reg) (v byte : ℕ) (d : Device) → wrote r v d.file ≡ Command byte
      → items_name s (commands_due d.file (in_hand byte d.sectors (after_write r v d.file))) ≡ false
      → aims_in s (in_hand byte d.sectors (after_write r v d.file)).phase ≡ false
  taken_away reg.Status v byte d w unnamed = command_away (takes_no_command d.file.phase || selects_absent d.file)
      v byte d refl w unnamed
  taken_away reg.Alternate v byte d w unnamed = absurd (no_command_control (has_bit SRST v) d.file.phase byte w)
  taken_away reg.BusCommand v byte d w unnamed = absurd cc
  taken_away reg.BusStatus v byte d w unnamed = absurd cc
  taken_away r v byte d w unnamed = absurd (no_command (is_at_work d.file.phase) byte w)

  wrote_away : (did : Wrote) (r : Reg) (v : ℕ) (d : Device) → wrote r v d.file ≡ did → aims_in s d.file.phase ≡ false
      → items_name s (commands_due d.file (after_wrote did (after_write r v d.file) d).file) ≡ false
      → aims_in s (after_wrote did (after_write r v d.file) d).file.phase ≡ false
  wrote_away Stored r v d w away unnamed = after_write_away r v d.file away
  wrote_away Ignored r v d w away unnamed = away
  wrote_away (Command byte) r v d w away unnamed = taken_away r v byte d w unnamed
  wrote_away ResetBegun r v d w away unnamed = after_write_away r v d.file away

  either_away : (of_bus : Bool) (r : Reg) (v : ℕ) (d : Device) → aims_in s d.file.phase ≡ false
      → items_name s (commands_due d.file (if of_bus then with_bus (bus_written r v d.bus) d
      else after_wrote (wrote r v d.file) (after_write r v d.file) d).file) ≡ false
      → aims_in s (if of_bus then with_bus (bus_written r v d.bus) d
      else after_wrote (wrote r v d.file) (after_write r v d.file) d).file.phase ≡ false
  either_away true r v d away unnamed = away
  either_away false r v d away unnamed = wrote_away (wrote r v d.file) r v d refl away unnamed

  -- a write of a register, where no command line of it names the sector
  pub write8_away : (r : Reg) (v : ℕ) (d : Device) → aims_in s d.file.phase ≡ false
      → items_name s (commands_due d.file (after_write8 r v d).file) ≡ false
      → aims_in s (after_write8 r v d).file.phase ≡ false
  write8_away r v d away unnamed = either_away (is_of_bus r) r v d away unnamed

  -- a step leaves the order, or ends it
  chosen_away : (b : Bool) (p q : Plain) → aims_in s p.device.file.phase ≡ false → aims_in s q.device.file.phase ≡ false
      → aims_in s (if b then p else q).device.file.phase ≡ false
  chosen_away true p q one other = one
  chosen_away false p q one other = other

  proceeded_away : (form : Form) (order : Request) (done : ℕ) (p : Plain) → aims_at s (Good order) ≡ false
      → aims_in s (proceeded form order done p).device.file.phase ≡ false
  proceeded_away NoMove order done p away = refl
  proceeded_away PioIn order done p away = away
  proceeded_away PioOut order done p away =
      chosen_away (done == 0) (first_wanted order p) (next_wanted order done p) away
      (chosen_away (nat_lt done order.count) (offered order done [] p) (ended p) away refl)
  proceeded_away DmaIn order done p away = chosen_away (nat_lt done order.count) (sector_given order done p)
      (transferred order p) away refl
  proceeded_away DmaOut order done p away = chosen_away (nat_lt done order.count) (walked order done p)
      (transferred order p) away refl

  stepped_away : (phase : Phase) (p : Plain) → p.device.file.phase ≡ phase → aims_in s phase ≡ false
      → aims_in s (good_step_in phase p).device.file.phase ≡ false
  stepped_away Reset p e away = chosen_away (holds_reset p.device.file) p
      (with_registers (reset_ended p.device.file) p) (rw e away) refl
  stepped_away Idle p e away = rw e away
  stepped_away (Ready order done left) p e away = rw e away
  stepped_away (Busy (Bad reason) done) p e away = refl
  stepped_away (Busy (Good order) done) p e away = proceeded_away order.form order done p away

  failed_away : (phase : Phase) (p : Plain) → p.device.file.phase ≡ phase → aims_in s phase ≡ false
      → aims_in s (bad_step_in phase p).device.file.phase ≡ false
  failed_away Reset p e away = rw e away
  failed_away Idle p e away = rw e away
  failed_away (Ready order done left) p e away = rw e away
  failed_away (Busy (Bad reason) done) p e away = refl
  failed_away (Busy (Good order) done) p e away = refl

  pub step_away : (st : Step) (p : Plain) → aims_in s p.device.file.phase ≡ false
      → aims_in s (step_made st p).device.file.phase ≡ false
  step_away step.Good p away = stepped_away p.device.file.phase p refl away
  step_away step.Bad p away = failed_away p.device.file.phase p refl away
