-- The view, and what of it is kept while the guest has the drive.
use Rattle.std.specs.Prelude.{◌≡◌, ℕ, Bool, true, false, not, ◌&&◌, if◌then◌else◌, bit_and}
use Rattle.ata_taskfile.specs.declared.Reg.{Reg}
use Rattle.ata_taskfile.specs.declared.Reg.TheVariants as reg
use Rattle.ata_taskfile.specs.declared.Access.{Access}
use Rattle.ata_taskfile.specs.declared.Access.TheVariants as access
use Rattle.ata_taskfile.specs.declared.Phase.{Phase}
use Rattle.ata_taskfile.specs.declared.task_file.TaskFile.{TaskFile}
use Rattle.ata_taskfile.specs.declared.bus_master.Bus.{Bus}
use Rattle.ata_taskfile.specs.declared.registers.TheConstants.{SRST, CONTROL_BITS}
use Rattle.ata_taskfile.specs.TaskFile.{has_bit, is_at_work, hob_cleared}
use Rattle.ata_taskfile.specs.Bus.{bus_written, pointer_written}
use Rattle.ata_taskfile.specs.Access.{accessed}
use Rattle.ata_taskfile.specs.Lawful.{HasLawfulRegisters, is_in_reset}
use Rattle.ata_taskfile.specs.Device.{Device, is_moving}
use Rattle.port_lease.specs.declared.view.View.{View}

-- a view as every device is
abbrev pub IsLawfulView : View → Type 0
IsLawfulView v = HasLawfulRegisters v.file v.bus

-- the command given is one whose sectors the bus master moves; on the guest's side the drive's bus
-- master is then the guest's (own)
abbrev pub uses_bus : View → Bool
uses_bus v = is_moving v.file.phase

-- what is known of Features, which can't be read: in reset nothing but what the reset leaves there (own)
abbrev pub known_features : TaskFile → ℕ
known_features f = if is_in_reset f.phase then 0 else f.features

-- the view has what can't be read of the drive's registers: Device Control, and of Features what is known
pub record IsKept (v : View) (f : TaskFile) : Type 0 where
  pub control : v.file.control ≡ f.control
  pub features : v.file.features ≡ known_features f

-- registers with what is kept of the drive's
abbrev pub with_kept : TaskFile → TaskFile → TaskFile
with_kept f kept = record kept { control = f.control; features = known_features f }

-- the command in hand moves sectors by the bus master only where the one given does
abbrev pub IsGiven : View → Device → Type 0
IsGiven v d = uses_bus v ≡ false → is_moving d.file.phase ≡ false

-- the command register of the bus master, by which a walk begins and ends
abbrev pub is_of_walk : Reg → Bool
is_of_walk reg.BusCommand = true
is_of_walk reg.BusStatus = false
is_of_walk reg.Error = false
is_of_walk reg.Count = false
is_of_walk reg.Low = false
is_of_walk reg.Mid = false
is_of_walk reg.High = false
is_of_walk reg.Device = false
is_of_walk reg.Status = false
is_of_walk reg.Alternate = false

-- an access to the command register of the bus master, or to the table pointer
abbrev pub is_walk_access : Access → Bool
is_walk_access (access.Read8 r) = is_of_walk r
is_walk_access (access.Write8 r v) = is_of_walk r
is_walk_access access.ReadWord = false
is_walk_access (access.WriteWord w) = false
is_walk_access access.ReadPointer = true
is_walk_access (access.WritePointer v) = true
is_walk_access access.Line = false

-- the drive after a guest's access on its side: all reach it, but for those to a bus master that is the
-- view's (own)
abbrev pub reached : View → Access → Device → Device
reached v a d = if is_walk_access a && not (uses_bus v) then d else accessed a d

-- the register that is Status where it is read, and Command where it is written (ATA/ATAPI-6, Status and
-- Command registers)
abbrev pub is_status_or_command : Reg → Bool
is_status_or_command reg.Status = true
is_status_or_command reg.Error = false
is_status_or_command reg.Count = false
is_status_or_command reg.Low = false
is_status_or_command reg.Mid = false
is_status_or_command reg.High = false
is_status_or_command reg.Device = false
is_status_or_command reg.Alternate = false
is_status_or_command reg.BusCommand = false
is_status_or_command reg.BusStatus = false

-- an access that writes Command
abbrev pub is_command : Access → Bool
is_command (access.Write8 r v) = is_status_or_command r
is_command (access.Read8 r) = false
is_command access.ReadWord = false
is_command (access.WriteWord w) = false
is_command access.ReadPointer = false
is_command (access.WritePointer v) = false
is_command access.Line = false

-- what is kept after a write of Device Control: a reset leaves 00h in Features
abbrev pub control_kept : ℕ → TaskFile → TaskFile
control_kept v f =
    record f {
      control = bit_and v CONTROL_BITS;
      features = if has_bit SRST v then 0 else f.features;
    }

-- what is kept of the registers after a write to one, by the drive's phase: where the drive ignores it
-- nothing changes
abbrev pub file_kept : Reg → ℕ → Phase → TaskFile → TaskFile
file_kept reg.Error v phase f =
    if is_at_work phase then f else record (hob_cleared f) { features = v }
file_kept reg.Count v phase f = if is_at_work phase then f else hob_cleared f
file_kept reg.Low v phase f = if is_at_work phase then f else hob_cleared f
file_kept reg.Mid v phase f = if is_at_work phase then f else hob_cleared f
file_kept reg.High v phase f = if is_at_work phase then f else hob_cleared f
file_kept reg.Device v phase f = if is_at_work phase then f else hob_cleared f
file_kept reg.Status v phase f = f
file_kept reg.Alternate v phase f = control_kept v f
file_kept reg.BusCommand v phase f = f
file_kept reg.BusStatus v phase f = f

-- the bus master that the view keeps, after a write to one of its registers: error and interrupt bit are
-- cleared in both, and all else where the bus master is the view's
abbrev pub bus_kept : Reg → ℕ → View → Bus
bus_kept r value v = if is_of_walk r && uses_bus v then v.bus else bus_written r value v.bus

-- the bus master that the view keeps, after a write of the pointer
abbrev pub pointer_kept : ℕ → View → Bus
pointer_kept value v = if uses_bus v then v.bus else pointer_written value v.bus
