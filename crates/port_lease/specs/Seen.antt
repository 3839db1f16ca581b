-- What the guest sees, on whichever side the drive is.
use Rattle.std.specs.Prelude.{◌≡◌, ℕ, Bool, ◌||◌, if◌then◌else◌}
use Rattle.ata_taskfile.specs.declared.Reg.{Reg}
use Rattle.ata_taskfile.specs.declared.task_file.TaskFile.{TaskFile}
use Rattle.ata_taskfile.specs.declared.bus_master.Bus.{Bus}
use Rattle.ata_taskfile.specs.TaskFile.{is_of_bus, line, value}
use Rattle.ata_taskfile.specs.Bus.{bus_value}
use Rattle.ata_taskfile.specs.Device.{Device, with_bus}
use Rattle.plain_drive.specs.Plain.{Plain}
use Rattle.plain_drive.specs.Alike.{without_command}
use Rattle.port_lease.specs.declared.view.View.{View}
use Rattle.port_lease.specs.View.{uses_bus}

-- what a guest can read: its registers, its bus master, and the line
pub record Seen : Type 0 where
  pub file : TaskFile
  pub bus : Bus
  pub line : Bool

-- what a guest sees of a device that is all its own
abbrev pub seen_of : Device → Seen
seen_of d = record { file = d.file; bus = d.bus; line = line d.file }

-- a bus master as the guest sees it beside the drive's: the interrupt bit is the drive's, and the error
-- bit is 1 where one of both is (own)
abbrev pub bus_beside : Bus → Bus → Bus
bus_beside kept drives =
    record kept { error = kept.error || drives.error; interrupt = drives.interrupt }

-- the bus master on the guest's side: the drive's where the command given uses it, and else the view's (own)
abbrev pub bus_on_guest_side : View → Bus → Bus
bus_on_guest_side v b =
    if uses_bus v then record b { error = v.bus.error || b.error } else bus_beside v.bus b

-- the device on the guest's side: the drive, with the bus master that the guest sees
abbrev pub on_guest_side : View → Device → Device
on_guest_side v d = with_bus (bus_on_guest_side v d.bus) d

-- the same of a drive with its memory
abbrev pub drive_on_guest_side : View → Plain → Plain
drive_on_guest_side v p = record p { device = on_guest_side v p.device }

-- what the guest sees on its side
abbrev pub seen_on_guest_side : View → Device → Seen
seen_on_guest_side v d = seen_of (on_guest_side v d)

-- what the guest sees on the monitor's side: the registers of the view, and the line of the drive (own)
abbrev pub seen_on_monitor_side : View → Device → Seen
seen_on_monitor_side v d =
    record { file = v.file; bus = bus_beside v.bus d.bus; line = line d.file }

-- what a read of a register answers
abbrev pub byte_seen : Reg → Seen → ℕ
byte_seen r s = if is_of_bus r then bus_value r s.bus else value r s.file

-- the guest has the same device as before: registers, but for the byte of the last command, bus master and line (own)
pub record IsSame (old new : Seen) : Type 0 where
  pub file : without_command new.file ≡ without_command old.file
  pub bus : new.bus ≡ old.bus
  pub line : new.line ≡ old.line

-- each next read of a register, of the pointer or of the line answers the same
pub record AnswersAlike (old new : Seen) : Type 0 where
  pub registers : (r : Reg) → byte_seen r new ≡ byte_seen r old
  pub pointer : new.bus.pointer ≡ old.bus.pointer
  pub line : new.line ≡ old.line
