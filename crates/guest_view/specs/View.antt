-- What a guest's access on the monitor's side makes of the view, and what it answers.
use Rattle.std.specs.Prelude.{ℕ, Bool, true, false, not, ◌&&◌, if◌then◌else◌}
use Rattle.ata_taskfile.specs.declared.Reg.{Reg}
use Rattle.ata_taskfile.specs.declared.Reg.TheVariants as reg
use Rattle.ata_taskfile.specs.declared.Access.{Access}
use Rattle.ata_taskfile.specs.declared.Access.TheVariants as access
use Rattle.ata_taskfile.specs.declared.Phase.{Phase}
use Rattle.ata_taskfile.specs.declared.Wrote.{Wrote}
use Rattle.ata_taskfile.specs.declared.Wrote.TheVariants.{Stored, Ignored, Command, ResetBegun}
use Rattle.ata_taskfile.specs.declared.task_file.TaskFile.{TaskFile}
use Rattle.ata_taskfile.specs.declared.registers.TheConstants.{SRST}
use Rattle.ata_taskfile.specs.TaskFile.{has_bit, is_of_bus, is_ignored, after_read, after_write, wrote}
use Rattle.ata_taskfile.specs.Bus.{bus_written, pointer_written}
use Rattle.ata_taskfile.specs.Data.{is_given, phase_after_read, phase_after_write}
use Rattle.ata_taskfile.specs.Device.{bus_in_reset, in_hand}
use Rattle.port_lease.specs.declared.view.View.{View}
use Rattle.port_lease.specs.View.{is_command}

-- the view with other registers
abbrev pub view_with_file : TaskFile → View → View
view_with_file f v = record v { file = f }

-- the view with its command in another phase
abbrev pub view_with_phase : Phase → View → View
view_with_phase phase v = record v { file = record v.file { phase = phase } }

-- the view after a write that did this and left these registers, on a drive of so many sectors
abbrev pub view_wrote : Wrote → TaskFile → ℕ → View → View
view_wrote Stored f sectors v = view_with_file f v
view_wrote Ignored f sectors v = v
view_wrote (Command byte) f sectors v = view_with_file (in_hand byte sectors f) v
view_wrote ResetBegun f sectors v =
    record { file = f; bus = bus_in_reset v.file.phase v.bus }

-- the view after a write to a register
abbrev pub view_after_write : Reg → ℕ → ℕ → View → View
view_after_write r x sectors v =
    if is_of_bus r
    then record v { bus = bus_written r x v.bus }
    else view_wrote (wrote r x v.file) (after_write r x v.file) sectors v

-- the view after an access, on a drive of so many sectors: what a plain drive with its registers would have;
-- its own interrupt bit is looked at by no rule (own)
abbrev pub view_after : Access → ℕ → View → View
view_after (access.Read8 r) sectors v = view_with_file (after_read r v.file) v
view_after (access.Write8 r x) sectors v = view_after_write r x sectors v
view_after access.ReadWord sectors v = view_with_phase (phase_after_read v.file.phase) v
view_after (access.WriteWord w) sectors v = view_with_phase (phase_after_write v.file.phase) v
view_after access.ReadPointer sectors v = v
view_after (access.WritePointer x) sectors v = record v { bus = pointer_written x v.bus }
view_after access.Line sectors v = v

-- an access that is answered by a word of the block which waits in Data
abbrev pub reads_block : Access → Phase → Bool
reads_block (access.Read8 r) phase = false
reads_block (access.Write8 r x) phase = false
reads_block access.ReadWord phase = is_given phase
reads_block (access.WriteWord w) phase = false
reads_block access.ReadPointer phase = false
reads_block (access.WritePointer x) phase = false
reads_block access.Line phase = false

-- an access that writes a command which is taken
abbrev pub takes_command : Access → TaskFile → Bool
takes_command a f = is_command a && not (is_ignored reg.Status f)

-- the byte that an access writes to Command; 0 of any other
abbrev pub byte_written : Access → ℕ
byte_written (access.Write8 r x) = x
byte_written (access.Read8 r) = 0
byte_written access.ReadWord = 0
byte_written (access.WriteWord w) = 0
byte_written access.ReadPointer = 0
byte_written (access.WritePointer x) = 0
byte_written access.Line = 0

-- the register that is Device Control where it is written (ATA/ATAPI-6, Device Control register)
abbrev pub is_control : Reg → Bool
is_control reg.Alternate = true
is_control reg.Error = false
is_control reg.Count = false
is_control reg.Low = false
is_control reg.Mid = false
is_control reg.High = false
is_control reg.Device = false
is_control reg.Status = false
is_control reg.BusCommand = false
is_control reg.BusStatus = false

-- an access that begins a reset, or holds one
abbrev pub is_reset : Access → Bool
is_reset (access.Write8 r x) = is_control r && has_bit SRST x
is_reset (access.Read8 r) = false
is_reset access.ReadWord = false
is_reset (access.WriteWord w) = false
is_reset access.ReadPointer = false
is_reset (access.WritePointer x) = false
is_reset access.Line = false
