-- The one device that the guest sees while the monitor has the drive.
use Rattle.std.specs.Prelude.{◌≡◌, Bool, true, ◌||◌}
use Rattle.ata_taskfile.specs.TaskFile.{line}
use Rattle.ata_taskfile.specs.Device.{Device}
use Rattle.plain_drive.specs.Plain.{Plain}
use Rattle.port_lease.specs.declared.view.View.{View}
use Rattle.port_lease.specs.Seen.{bus_beside}

-- the device that the guest sees on the monitor's side: the registers of the view, the bus master of view and
-- drive, and block and sectors of a device (own)
abbrev pub on_monitor_side : View → Device → Device → Device
on_monitor_side v d g = record g { file = v.file; bus = bus_beside v.bus d.bus }

-- the same of a drive with its memory
abbrev pub drive_on_monitor_side : View → Device → Plain → Plain
drive_on_monitor_side v d p = record p { device = on_monitor_side v d p.device }

-- the drive's line is the view's; where an interrupt pends for the guest, it pends in the drive, and while a dummy
-- read that wasn't cancelled is in flight none pends in one of both alone (own)
pub record IsInStep (waits : Bool) (v : View) (d : Device) : Type 0 where
  pub line_same : line d.file ≡ line v.file
  pub pending : (v.file.pending || waits) ≡ true → d.file.pending ≡ v.file.pending
