-- The registers of one device, and what each read, write and end of a command does to them.
use Rattle.std.specs.Prelude.{ℕ, Bool, true, false, not, ◌&&◌, ◌||◌, ◌==◌, ◌/◌, ◌%◌, ◌^◌, if◌then◌else◌, bit_and, bit_or, slice_index, List, [], ◌∷◌}
use Rattle.ata_taskfile.specs.declared.Reg.{Reg}
use Rattle.ata_taskfile.specs.declared.Reg.TheVariants as reg
use Rattle.ata_taskfile.specs.declared.Phase.{Phase}
use Rattle.ata_taskfile.specs.declared.Phase.TheVariants.{Reset, Idle, Busy, Ready}
use Rattle.ata_taskfile.specs.declared.Refused.{Refused}
use Rattle.ata_taskfile.specs.declared.Refused.TheVariants.{Abort, NotFound}
use Rattle.ata_taskfile.specs.declared.Wrote.{Wrote}
use Rattle.ata_taskfile.specs.declared.Wrote.TheVariants.{Stored, Ignored, Command, ResetBegun}
use Rattle.ata_taskfile.specs.declared.task_file.TaskFile.{TaskFile}
use Rattle.ata_taskfile.specs.declared.registers.TheConstants.{STATUS_BUSY, STATUS_BLOCK, STATUS_FAILED, STATUS_IDLE, HOB, SRST, NIEN, CONTROL_BITS, DEV, ADDRESS_BITS, IDNF, ABRT}

-- a bit of a byte is 1
abbrev pub has_bit : ℕ → ℕ → Bool
has_bit bit byte = not (bit_and byte bit == 0)

-- HOB is 1: a two-byte register shows its previous byte (ATA/ATAPI-6, Device Control register)
abbrev pub shows_previous : TaskFile → Bool
shows_previous f = has_bit HOB f.control

-- SRST is 1: the device is held in reset (ATA/ATAPI-6, Device Control register)
abbrev pub holds_reset : TaskFile → Bool
holds_reset f = has_bit SRST f.control

-- nIEN is 1: the line stays low (ATA/ATAPI-6, Device Control register)
abbrev pub masks_line : TaskFile → Bool
masks_line f = has_bit NIEN f.control

-- DEV is 1: the second device is meant, which isn't there (ATA/ATAPI-6, Device register)
abbrev pub selects_absent : TaskFile → Bool
selects_absent f = has_bit DEV f.device

-- the interrupt line: high where an interrupt pends that nIEN doesn't mask (ATA/ATAPI-6, INTRQ)
abbrev pub line : TaskFile → Bool
line f = f.pending && not (masks_line f)

-- the byte of Status in a phase; for Idle also by the failed mark (own)
abbrev pub status_in : Phase → Bool → ℕ
status_in Reset failed = STATUS_BUSY
status_in (Busy taken done) failed = STATUS_BUSY
status_in (Ready taken done left) failed = STATUS_BLOCK
status_in Idle true = STATUS_FAILED
status_in Idle false = STATUS_IDLE

-- what Status and Alternate Status show; 00h for the device that isn't there (own)
abbrev pub status : TaskFile → ℕ
status f = if selects_absent f then 0 else status_in f.phase f.failed

-- the byte that a two-byte register shows (ATA/ATAPI-6, 48-bit Address feature set)
abbrev pub shown : TaskFile → List ℕ → ℕ
shown f bytes = if shows_previous f then slice_index bytes 1 else slice_index bytes 0

-- one of the two registers of the bus master, which aren't the task file's
abbrev pub is_of_bus : Reg → Bool
is_of_bus reg.BusCommand = true
is_of_bus reg.BusStatus = true
is_of_bus reg.Error = false
is_of_bus reg.Count = false
is_of_bus reg.Low = false
is_of_bus reg.Mid = false
is_of_bus reg.High = false
is_of_bus reg.Device = false
is_of_bus reg.Status = false
is_of_bus reg.Alternate = false

-- what a read of a register answers (ATA/ATAPI-6, I/O registers)
abbrev pub value : Reg → TaskFile → ℕ
value reg.Error f = f.error
value reg.Count f = shown f f.count
value reg.Low f = shown f f.low
value reg.Mid f = shown f f.mid
value reg.High f = shown f f.high
value reg.Device f = f.device
value reg.Status f = status f
value reg.Alternate f = status f
value reg.BusCommand f = 0
value reg.BusStatus f = 0

-- after a read: Status ends the interrupt, and no other changes a thing (ATA/ATAPI-6, Status register)
abbrev pub after_read : Reg → TaskFile → TaskFile
after_read reg.Status f = record f { pending = false }
after_read reg.Error f = f
after_read reg.Count f = f
after_read reg.Low f = f
after_read reg.Mid f = f
after_read reg.High f = f
after_read reg.Device f = f
after_read reg.Alternate f = f
after_read reg.BusCommand f = f
after_read reg.BusStatus f = f

-- the device is at work, and a write to the command block has no effect (ATA/ATAPI-6, BSY bit)
abbrev pub is_at_work : Phase → Bool
is_at_work Reset = true
is_at_work (Busy taken done) = true
is_at_work Idle = false
is_at_work (Ready taken done left) = false

-- no Command write is taken in these phases (own: none in Ready)
abbrev pub takes_no_command : Phase → Bool
takes_no_command Reset = true
takes_no_command (Busy taken done) = true
takes_no_command (Ready taken done left) = true
takes_no_command Idle = false

-- a write that has no effect, as one of Command for the device that isn't there (own)
abbrev pub is_ignored : Reg → TaskFile → Bool
is_ignored reg.Alternate f = false
is_ignored reg.Status f = takes_no_command f.phase || selects_absent f
is_ignored reg.Error f = is_at_work f.phase
is_ignored reg.Count f = is_at_work f.phase
is_ignored reg.Low f = is_at_work f.phase
is_ignored reg.Mid f = is_at_work f.phase
is_ignored reg.High f = is_at_work f.phase
is_ignored reg.Device f = is_at_work f.phase
is_ignored reg.BusCommand f = true
is_ignored reg.BusStatus f = true

-- a byte comes into a two-byte register, and the current one becomes the previous
-- (ATA/ATAPI-6, 48-bit Address feature set)
abbrev pub moved_in : ℕ → List ℕ → List ℕ
moved_in v bytes = v ∷ slice_index bytes 0 ∷ []

-- HOB is 0 after a write to the command block; 7Fh is all bits but HOB (ATA/ATAPI-6, Device Control register)
abbrev pub hob_cleared : TaskFile → TaskFile
hob_cleared f = record f { control = bit_and f.control 127 }

-- in reset: within a reset SRST changes nothing more
abbrev pub in_reset : Phase → TaskFile → TaskFile
in_reset Reset f = f
in_reset Idle f = record f { phase = Reset; pending = false }
in_reset (Busy taken done) f = record f { phase = Reset; pending = false }
in_reset (Ready taken done left) f = record f { phase = Reset; pending = false }

-- after a Device Control write: HOB, SRST and nIEN are kept, and SRST at 1 begins a reset
-- (ATA/ATAPI-6, Device Control register)
abbrev pub controlled : ℕ → TaskFile → TaskFile
controlled v f = if has_bit SRST v
    then in_reset f.phase (record f { control = bit_and v CONTROL_BITS })
    else record f { control = bit_and v CONTROL_BITS }

-- after a write that is taken; Command keeps the byte, and Error, the failed mark and the interrupt go
abbrev pub stored : Reg → ℕ → TaskFile → TaskFile
stored reg.Error v f = record (hob_cleared f) { features = v }
stored reg.Count v f = record (hob_cleared f) { count = moved_in v f.count }
stored reg.Low v f = record (hob_cleared f) { low = moved_in v f.low }
stored reg.Mid v f = record (hob_cleared f) { mid = moved_in v f.mid }
stored reg.High v f = record (hob_cleared f) { high = moved_in v f.high }
stored reg.Device v f = record (hob_cleared f) { device = v }
stored reg.Status v f =
    record (hob_cleared f) { command = v; error = 0; failed = false; pending = false }
stored reg.Alternate v f = controlled v f
stored reg.BusCommand v f = f
stored reg.BusStatus v f = f

-- after a write to a register of the task file; the phase of a taken command is its caller's to set
abbrev pub after_write : Reg → ℕ → TaskFile → TaskFile
after_write r v f = if is_ignored r f then f else stored r v f

-- SRST at 1 begins a reset outside of one
abbrev pub control_wrote : Phase → Wrote
control_wrote Reset = Stored
control_wrote Idle = ResetBegun
control_wrote (Busy taken done) = ResetBegun
control_wrote (Ready taken done left) = ResetBegun

-- what a write that is taken did
abbrev pub stored_as : Reg → ℕ → TaskFile → Wrote
stored_as reg.Status v f = Command v
stored_as reg.Alternate v f = if has_bit SRST v then control_wrote f.phase else Stored
stored_as reg.Error v f = Stored
stored_as reg.Count v f = Stored
stored_as reg.Low v f = Stored
stored_as reg.Mid v f = Stored
stored_as reg.High v f = Stored
stored_as reg.Device v f = Stored
stored_as reg.BusCommand v f = Stored
stored_as reg.BusStatus v f = Stored

-- what a write did
abbrev pub wrote : Reg → ℕ → TaskFile → Wrote
wrote r v f = if is_ignored r f then Ignored else stored_as r v f

-- power-on: in reset, and every byte 00h (own)
abbrev pub power_on : TaskFile
power_on = record {
  count = 0 ∷ 0 ∷ [];
  low = 0 ∷ 0 ∷ [];
  mid = 0 ∷ 0 ∷ [];
  high = 0 ∷ 0 ∷ [];
  features = 0;
  device = 0;
  control = 0;
  error = 0;
  command = 0;
  failed = false;
  pending = false;
  phase = Reset;
}

-- the end of a reset: these values, and no interrupt (own)
abbrev pub reset_ended : TaskFile → TaskFile
reset_ended f = record f {
  count = 1 ∷ 0 ∷ [];
  low = 1 ∷ 0 ∷ [];
  mid = 0 ∷ 0 ∷ [];
  high = 0 ∷ 0 ∷ [];
  features = 0;
  device = 0;
  error = 1;
  failed = false;
  phase = Idle;
}

-- the Error byte of a refusal (own; the bits are those of ATA/ATAPI-6, Error register)
abbrev pub refusal_bit : Refused → ℕ
refusal_bit Abort = ABRT
refusal_bit NotFound = IDNF

-- a command's failed end, which interrupts
abbrev pub ended_failed : ℕ → TaskFile → TaskFile
ended_failed error f = record f { error = error; failed = true; pending = true; phase = Idle }

-- the end of a refused command; the address registers stay
abbrev pub refused : Refused → TaskFile → TaskFile
refused reason f = ended_failed (refusal_bit reason) f

-- in a phase that begins with an interrupt: Ready, where a block waits in Data or is wanted there, or Idle, where the
-- command has ended well (ATA/ATAPI-6, INTRQ)
abbrev pub interrupted_in : Phase → TaskFile → TaskFile
interrupted_in phase f = record f { phase = phase; pending = true }

-- the i-th byte of a number, lowest first
abbrev pub byte_at : ℕ → ℕ → ℕ
byte_at i n = n / 256 ^ i % 256

-- a sector's number in the address registers: 28 bits in the current bytes and Device, whose high four bits (F0h)
-- stay, or 48 bits in both bytes (own: after which failure)
abbrev pub addressed : Bool → ℕ → TaskFile → TaskFile
addressed false sector f = record f {
  low = byte_at 0 sector ∷ slice_index f.low 1 ∷ [];
  mid = byte_at 1 sector ∷ slice_index f.mid 1 ∷ [];
  high = byte_at 2 sector ∷ slice_index f.high 1 ∷ [];
  device = bit_or (bit_and f.device 240) (bit_and (byte_at 3 sector) ADDRESS_BITS);
}
addressed true sector f = record f {
  low = byte_at 0 sector ∷ byte_at 3 sector ∷ [];
  mid = byte_at 1 sector ∷ byte_at 4 sector ∷ [];
  high = byte_at 2 sector ∷ byte_at 5 sector ∷ [];
}
