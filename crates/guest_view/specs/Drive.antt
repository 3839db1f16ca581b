-- What of a guest's access on the monitor's side reaches the drive.
use Rattle.std.specs.Prelude.{◌≡◌, ℕ, Bool, not, ◌&&◌, ◌||◌, if◌then◌else◌}
use Rattle.ata_taskfile.specs.declared.Reg.{Reg}
use Rattle.ata_taskfile.specs.declared.Reg.TheVariants as reg
use Rattle.ata_taskfile.specs.declared.Access.{Access}
use Rattle.ata_taskfile.specs.declared.Access.TheVariants as access
use Rattle.ata_taskfile.specs.declared.registers.TheConstants.{NIEN}
use Rattle.ata_taskfile.specs.TaskFile.{has_bit, is_ignored}
use Rattle.ata_taskfile.specs.Device.{Device, after_read8, after_write8}
use Rattle.own_pio.specs.Named.{nien_of}
use Rattle.port_lease.specs.declared.view.View.{View}

-- the drive after its interrupt was acknowledged, where it is to be
abbrev pub acknowledged : Bool → Device → Device
acknowledged needed d = if needed then after_read8 reg.Status d else d

-- the drive after a write of Device Control came to it as nIEN alone, where it does
abbrev pub nien_written : Bool → ℕ → Device → Device
nien_written needed x d =
    if needed then after_write8 reg.Alternate (nien_of (has_bit NIEN x)) d else d

-- the drive after a read of a register: one of Status acknowledges, where an interrupt pends for the guest (own)
abbrev pub drive_after_read : Reg → View → Device → Device
drive_after_read reg.Status v d = acknowledged v.file.pending d
drive_after_read reg.Error v d = d
drive_after_read reg.Count v d = d
drive_after_read reg.Low v d = d
drive_after_read reg.Mid v d = d
drive_after_read reg.High v d = d
drive_after_read reg.Device v d = d
drive_after_read reg.Alternate v d = d
drive_after_read reg.BusCommand v d = d
drive_after_read reg.BusStatus v d = d

-- the drive after a write to a register: error and interrupt bit are cleared in it too, nIEN reaches it where an
-- interrupt pends for the guest or a dummy read that wasn't cancelled is in flight (waits), and a command that is
-- taken acknowledges as a read of Status does (own)
abbrev pub drive_after_write : Bool → Reg → ℕ → View → Device → Device
drive_after_write waits reg.BusStatus x v d = after_write8 reg.BusStatus x d
drive_after_write waits reg.Alternate x v d = nien_written (v.file.pending || waits) x d
drive_after_write waits reg.Status x v d =
    acknowledged (v.file.pending && not (is_ignored reg.Status v.file)) d
drive_after_write waits reg.Error x v d = d
drive_after_write waits reg.Count x v d = d
drive_after_write waits reg.Low x v d = d
drive_after_write waits reg.Mid x v d = d
drive_after_write waits reg.High x v d = d
drive_after_write waits reg.Device x v d = d
drive_after_write waits reg.BusCommand x v d = d

-- the drive after an access; Data, pointer and a look at the line don't change it
abbrev pub drive_after : Bool → View → Access → Device → Device
drive_after waits v (access.Read8 r) d = drive_after_read r v d
drive_after waits v (access.Write8 r x) d = drive_after_write waits r x v d
drive_after waits v access.ReadWord d = d
drive_after waits v (access.WriteWord w) d = d
drive_after waits v access.ReadPointer d = d
drive_after waits v (access.WritePointer x) d = d
drive_after waits v access.Line d = d

-- nothing of a drive changed but Device Control, whether an interrupt pends, and the bus master's error and interrupt
-- bit: its command, its block and its sectors are as they were
pub record LeavesWork (old new : Device) : Type 0 where
  pub file : new.file ≡ record old.file { control = new.file.control; pending = new.file.pending }
  pub bus : new.bus ≡ record old.bus { error = new.bus.error; interrupt = new.bus.interrupt }
  pub others : new ≡ record old { file = new.file; bus = new.bus }
