-- Each access leaves a lawful device lawful.
--
-- First what the rules look at of registers and bus master (AreLawful), then registers, bus master, block and count
-- of sectors (IsLawfulState) by what a write did, and at last the whole device by access.
use Rattle.std.proofs.Common.{◌≡◌, ℕ, ◌≤◌, List, length, Bool, true, false, ◌||◌, if◌then◌else◌, bit_and, refl, sym, ap, subst, ◌∙◌, arith}
use Rattle.std.proofs.lemmas.Nat.{and_assoc}
use Rattle.std.proofs.lemmas.Grind.{common_steps}
use Rattle.ata_taskfile.specs.declared.Reg.{Reg}
use Rattle.ata_taskfile.specs.declared.Reg.TheVariants as reg
use Rattle.ata_taskfile.specs.declared.Phase.{Phase}
use Rattle.ata_taskfile.specs.declared.Phase.TheVariants.{Reset, Idle, Busy, Ready}
use Rattle.ata_taskfile.specs.declared.Taken.{Taken}
use Rattle.ata_taskfile.specs.declared.Wrote.{Wrote}
use Rattle.ata_taskfile.specs.declared.Wrote.TheVariants.{Stored, Ignored, Command, ResetBegun}
use Rattle.ata_taskfile.specs.declared.Access.{Access}
use Rattle.ata_taskfile.specs.declared.Access.TheVariants as access
use Rattle.ata_taskfile.specs.declared.task_file.TaskFile.{TaskFile}
use Rattle.ata_taskfile.specs.declared.bus_master.Bus.{Bus}
use Rattle.ata_taskfile.specs.declared.registers.TheConstants.{SRST, DEV}
use Rattle.ata_taskfile.specs.TaskFile.{is_of_bus, control_wrote, in_reset, selects_absent, takes_no_command, line, stored, has_bit, after_read, wrote, after_write, is_at_work}
use Rattle.ata_taskfile.specs.Bus.{raised, bus_written, pointer_written}
use Rattle.ata_taskfile.specs.Order.{inputs, Inputs, order_of, taken}
use Rattle.ata_taskfile.specs.Data.{phase_after_read, phase_after_write, block_after_write}
use Rattle.ata_taskfile.specs.Device.{Device, with_bus, after_wrote, in_hand, bus_in_reset}
use Rattle.ata_taskfile.specs.Access.{accessed}
use Rattle.ata_taskfile.specs.Lawful.{end_of, has_its_words, is_in_reset, is_possible, end_in, IsLawfulPhase, AreLawful, HasTwoBytes, IsLawfulState, IsLawful}

-- Device Control without HOB keeps its bits
cleared-kept : (c : ℕ) → bit_and c 134 ≡ c → bit_and (bit_and c 127) 134 ≡ bit_and c 127
cleared-kept c e = and_assoc 134 c 127 ∙ sym (and_assoc 127 c 134) ∙ ap (λ n. bit_and n 127) e

-- an order of the table is possible
pub order-possible : (byte n : ℕ) (i : Inputs) → is_possible (taken (order_of byte i n)) ≡ true
order-possible byte n i = grind arith

-- the sectors of an order of the table are on the drive
order-within : (byte n : ℕ) (i : Inputs) → end_in (taken (order_of byte i n)) ≤ n
order-within byte n i = grind arith

-- a drive can work at the start of a possible order
order-starts : (order : Taken) → is_possible order ≡ true → IsLawfulPhase (Busy order 0)
order-starts order possible = grind arith

-- a command that was taken
taken-lawful : (device c old : ℕ) (failed pending : Bool) (phase : Phase) (b : Bus) (order : Taken)
    → phase ≡ Idle → has_bit DEV device ≡ false → is_possible order ≡ true
    → AreLawful c device old failed pending phase b → AreLawful (bit_and c 127) device 0 false false (Busy order 0) b
taken-lawful device c old failed pending phase b order idle selected possible l =
    let k = cleared-kept c l.kept in
    let s = and_assoc 4 c 127 in
    let p = order-starts order possible in
    grind (arith, k, s, p)

-- a command that was just taken has taken no word
taken-block : (order : Taken) (words : ℕ) → has_its_words (Busy order 0) words ≡ true
taken-block order words = grind arith

-- a Command write is taken in Idle alone, and with DEV at 0
is_idle : (phase : Phase) (absent : Bool) → (takes_no_command phase || absent) ≡ false → phase ≡ Idle
is_idle phase absent e = grind arith

is_selected : (busy absent : Bool) → (busy || absent) ≡ false → absent ≡ false
is_selected busy absent e = grind arith

-- a word that is read from Data, or written there
words_read-lawful : (device error c : ℕ) (failed pending : Bool) (phase : Phase) (b : Bus)
    → AreLawful c device error failed pending phase b → AreLawful c device error failed pending
    (phase_after_read phase) b
words_read-lawful device error c failed pending phase b l = grind arith

words_written-lawful : (device error c : ℕ) (failed pending : Bool) (phase : Phase) (b : Bus)
    → AreLawful c device error failed pending phase b → AreLawful c device error failed pending
    (phase_after_write phase) b
words_written-lawful device error c failed pending phase b l = grind arith

-- the sectors of the order in hand stay on the drive when a word is read or written
read_word-within : (phase : Phase) (n : ℕ) → end_of phase ≤ n → end_of (phase_after_read phase) ≤ n
read_word-within phase n h = grind arith

write_word-within : (phase : Phase) (n : ℕ) → end_of phase ≤ n → end_of (phase_after_write phase) ≤ n
write_word-within phase n h = grind arith

-- the block has as many words as its phase says
read_word-block : (phase : Phase) (words : ℕ) → IsLawfulPhase phase → has_its_words phase words ≡ true
    → has_its_words (phase_after_read phase) words ≡ true
read_word-block phase words l e = grind arith

write_word-block : (phase : Phase) (w : ℕ) (block : List ℕ) → IsLawfulPhase phase
    → has_its_words phase (length block) ≡ true
    → has_its_words (phase_after_write phase) (length (block_after_write w phase block)) ≡ true
write_word-block phase w block l e = grind (arith, common_steps)

-- what is lawful after a write that did this in such a phase: the registers that it left, where it took a command
-- with its order in hand, and where it began a reset with the bus master that this leaves
abbrev IsLawfulAfter : Wrote → Phase → TaskFile → Bus → ℕ → ℕ → Type 0
IsLawfulAfter Stored phase g b words n = IsLawfulState g b words n
IsLawfulAfter Ignored phase g b words n = IsLawfulState g b words n
IsLawfulAfter (Command byte) phase g b words n = IsLawfulState (in_hand byte n g) b words n
IsLawfulAfter ResetBegun phase g b words n = IsLawfulState g (bus_in_reset phase b) words n

module _ (f : TaskFile) (b : Bus) (words n : ℕ) (l : IsLawfulState f b words n) where
  -- a byte that moves into a two-byte register leaves two there
  stored-pairs : (r : Reg) (v : ℕ) → HasTwoBytes (stored r v f)
  stored-pairs r v = let two = l.pairs in grind arith

  -- a write to the command block that is no command
  block-written : (at_work : Bool) (g : TaskFile) → HasTwoBytes g → is_at_work f.phase ≡ at_work
      → g.control ≡ bit_and f.control 127 → g.error ≡ f.error → g.failed ≡ f.failed → g.pending ≡ f.pending
      → g.phase ≡ f.phase
      → IsLawfulAfter (if at_work then Ignored else Stored) f.phase (if at_work then f else g) b words n
  block-written true g two at c e failed p phase = l
  block-written false g two at c e failed p phase =
      let k = cleared-kept f.control l.registers.kept in
      let s = and_assoc 4 f.control 127 in
      grind (arith, k, s)

  -- a write of Command
  command-written : (ignored : Bool) (v : ℕ) → (takes_no_command f.phase || selects_absent f) ≡ ignored
      → IsLawfulAfter (if ignored then Ignored else Command v) f.phase (if ignored then f else stored reg.Status v f)
      b words n
  command-written true v e = l
  command-written false v e =
      let order : Taken = taken (order_of v (inputs f) n) in
      let idle = is_idle f.phase (selects_absent f) e in
      let here = is_selected (takes_no_command f.phase) (selects_absent f) e in
      let possible = order-possible v n (inputs f) in
      record {
        registers = taken-lawful f.device f.control f.error f.failed f.pending f.phase b order idle
            here possible l.registers;
        within = order-within v n (inputs f);
        block = taken-block order words;
        pairs = l.pairs;
      }

  -- a write of Device Control that begins no reset
  kept_phase : (v : ℕ) → (has_bit SRST v ≡ true → is_in_reset f.phase ≡ true)
      → IsLawfulState (record f { control = bit_and v 134 }) b words n
  kept_phase v held =
      let k = and_assoc 134 v 134 in
      let s = and_assoc 4 v 134 in
      grind (arith, k, s)

  -- a write of Device Control that begins a reset
  begun : (v : ℕ) → IsLawfulState (record f { control = bit_and v 134; phase = Reset; pending = false })
      (bus_in_reset f.phase b) words n
  begun v =
      let k = and_assoc 134 v 134 in
      let s = and_assoc 4 v 134 in
      grind (arith, k, s)

  -- a write of Device Control with SRST at 1
  held-written : (phase : Phase) (v : ℕ) → f.phase ≡ phase
      → IsLawfulAfter (control_wrote phase) f.phase (in_reset phase (record f { control = bit_and v 134 })) b words n
  held-written Reset v e = kept_phase v (λ srst. ap is_in_reset e)
  held-written Idle v e = begun v
  held-written (Busy order done) v e = begun v
  held-written (Ready order done left) v e = begun v

  -- any write of Device Control
  control-written : (srst : Bool) (v : ℕ) → has_bit SRST v ≡ srst
      → IsLawfulAfter (if srst then control_wrote f.phase else Stored) f.phase
      (if srst then in_reset f.phase (record f { control = bit_and v 134 }) else record f { control = bit_and v 134 })
      b words n
  control-written true v e = held-written f.phase v refl
  control-written false v e = kept_phase v (λ srst. cc)

  -- a write to a register of the task file
  written-lawful : (r : Reg) (v : ℕ) → IsLawfulAfter (wrote r v f) f.phase (after_write r v f) b words n
  written-lawful reg.Error v =
      block-written (is_at_work f.phase) (stored reg.Error v f) (stored-pairs reg.Error v) refl refl refl refl refl refl
  written-lawful reg.Count v =
      block-written (is_at_work f.phase) (stored reg.Count v f) (stored-pairs reg.Count v) refl refl refl refl refl refl
  written-lawful reg.Low v =
      block-written (is_at_work f.phase) (stored reg.Low v f) (stored-pairs reg.Low v) refl refl refl refl refl refl
  written-lawful reg.Mid v =
      block-written (is_at_work f.phase) (stored reg.Mid v f) (stored-pairs reg.Mid v) refl refl refl refl refl refl
  written-lawful reg.High v =
      block-written (is_at_work f.phase) (stored reg.High v f) (stored-pairs reg.High v) refl refl refl refl refl refl
  written-lawful reg.Device v =
      block-written (is_at_work f.phase) (stored reg.Device v f) (stored-pairs reg.Device v) refl refl refl refl refl refl
  written-lawful reg.Status v = command-written (takes_no_command f.phase || selects_absent f) v refl
  written-lawful reg.Alternate v = control-written (has_bit SRST v) v refl
  written-lawful reg.BusCommand v = l
  written-lawful reg.BusStatus v = l

-- registers and bus master after a write of which it is known what it did
wrote-lawful : (did : Wrote) (r : Reg) (v : ℕ) (f : TaskFile) (b : Bus) (words n : ℕ) → wrote r v f ≡ did
    → IsLawfulState f b words n
    → IsLawfulAfter did f.phase (after_write r v f) b words n
wrote-lawful did r v f b words n is l = subst (λ did. IsLawfulAfter did f.phase (after_write r v f) b words n) is
    (written-lawful f b words n l r v)

pub stored_lawful : (r : Reg) (v : ℕ) (f : TaskFile) (b : Bus) (words n : ℕ) → wrote r v f ≡ Stored
    → IsLawfulState f b words n
    → IsLawfulState (after_write r v f) b words n
stored_lawful = wrote-lawful Stored

pub command_lawful : (r : Reg) (v byte : ℕ) (f : TaskFile) (b : Bus) (words n : ℕ) → wrote r v f ≡ Command byte
    → IsLawfulState f b words n
    → IsLawfulState (in_hand byte n (after_write r v f)) b words n
command_lawful r v byte = wrote-lawful (Command byte) r v

pub reset_lawful : (r : Reg) (v : ℕ) (f : TaskFile) (b : Bus) (words n : ℕ) → wrote r v f ≡ ResetBegun
    → IsLawfulState f b words n
    → IsLawfulState (after_write r v f) (bus_in_reset f.phase b) words n
reset_lawful = wrote-lawful ResetBegun

-- a rise of the line
pub raised_lawful : (was now : Bool) (f : TaskFile) (b : Bus) (words n : ℕ) → IsLawfulState f b words n
    → IsLawfulState f (raised was now b) words n
raised_lawful was now f b words n l = grind arith

-- a read of a register of the task file
read_lawful : (r : Reg) (f : TaskFile) (b : Bus) (words n : ℕ) → IsLawfulState f b words n
    → IsLawfulState (after_read r f) b words n
read_lawful r f b words n l = grind arith

-- a write of a register of the bus master
pub bus_written_lawful : (r : Reg) (v : ℕ) (f : TaskFile) (b : Bus) (words n : ℕ) → IsLawfulState f b words n
    → IsLawfulState f (bus_written r v b) words n
bus_written_lawful r v f b words n l = grind arith

-- a write of the pointer
pointer_lawful : (v : ℕ) (f : TaskFile) (b : Bus) (words n : ℕ) → IsLawfulState f b words n
    → IsLawfulState f (pointer_written v b) words n
pointer_lawful v f b words n l = grind arith

module _ (d : Device) (l : IsLawful d) where
  -- other registers, and what the line makes of the bus master
  with_line : (g : TaskFile) (b : Bus) → IsLawfulState g b (length d.block) d.sectors
      → IsLawfulState g (raised (line d.file) (line g) b) (length d.block) d.sectors
  with_line g b h = raised_lawful (line d.file) (line g) g b (length d.block) d.sectors h

  -- a write to a register of the task file
  file-written : (did : Wrote) (g : TaskFile) → IsLawfulAfter did d.file.phase g d.bus (length d.block) d.sectors
      → IsLawful (after_wrote did g d)
  file-written Stored g h = with_line g d.bus h
  file-written Ignored g h = l
  file-written (Command byte) g h = with_line (in_hand byte d.sectors g) d.bus h
  file-written ResetBegun g h = with_line g (bus_in_reset d.file.phase d.bus) h

  -- a write to any register
  written : (of_bus : Bool) (r : Reg) (v : ℕ)
      → IsLawful (if of_bus then with_bus (bus_written r v d.bus) d else after_wrote (wrote r v d.file)
      (after_write r v d.file) d)
  written true r v = bus_written_lawful r v d.file d.bus (length d.block) d.sectors l
  written false r v = file-written (wrote r v d.file) (after_write r v d.file)
      (written-lawful d.file d.bus (length d.block) d.sectors l r v)

  -- a word read from Data
  word_read : IsLawful (accessed access.ReadWord d)
  word_read = record {
    registers = words_read-lawful d.file.device d.file.error d.file.control d.file.failed d.file.pending
        d.file.phase d.bus l.registers;
    within = read_word-within d.file.phase d.sectors l.within;
    block = read_word-block d.file.phase (length d.block) l.registers.goes_on l.block;
    pairs = l.pairs;
  }

  -- a word written to Data
  word_written : (w : ℕ) → IsLawful (accessed (access.WriteWord w) d)
  word_written w = record {
    registers = words_written-lawful d.file.device d.file.error d.file.control d.file.failed d.file.pending
        d.file.phase d.bus l.registers;
    within = write_word-within d.file.phase d.sectors l.within;
    block = write_word-block d.file.phase w d.block l.registers.goes_on l.block;
    pairs = l.pairs;
  }

-- any access
pub accessed-lawful : (a : Access) (d : Device) → IsLawful d → IsLawful (accessed a d)
accessed-lawful (access.Read8 r) d l = with_line d l (after_read r d.file) d.bus
    (read_lawful r d.file d.bus (length d.block) d.sectors l)
accessed-lawful (access.Write8 r v) d l = written d l (is_of_bus r) r v
accessed-lawful access.ReadWord d l = word_read d l
accessed-lawful (access.WriteWord w) d l = word_written d l w
accessed-lawful access.ReadPointer d l = l
accessed-lawful (access.WritePointer v) d l = pointer_lawful v d.file d.bus (length d.block) d.sectors l
accessed-lawful access.Line d l = l
