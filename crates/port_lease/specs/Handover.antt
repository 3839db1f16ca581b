-- What taking, giving and removing make of the drive and of the view.
use Rattle.std.specs.Prelude.{◌≡◌, ℕ, Bool, not, ◌&&◌, ◌==◌, if◌then◌else◌, List, [], ◌∷◌}
use Rattle.ata_taskfile.specs.declared.Phase.TheVariants.{Busy}
use Rattle.ata_taskfile.specs.declared.task_file.TaskFile.{TaskFile}
use Rattle.ata_taskfile.specs.declared.bus_master.Bus.{Bus}
use Rattle.ata_taskfile.specs.declared.registers.TheConstants.{STATUS_IDLE}
use Rattle.ata_taskfile.specs.TaskFile.{status, shown}
use Rattle.ata_taskfile.specs.Bus.{walk_stopped}
use Rattle.ata_taskfile.specs.Order.{inputs, order_of, taken}
use Rattle.ata_taskfile.specs.Device.{Device, with_bus}
use Rattle.port_lease.specs.declared.view.View.{View}
use Rattle.port_lease.specs.View.{uses_bus}

-- the byte that each two-byte register shows: Count, Low, Mid, High
abbrev pub shown_bytes : TaskFile → List ℕ
shown_bytes f = shown f f.count ∷ shown f f.low ∷ shown f f.mid ∷ shown f f.high ∷ []

-- the drive after a take: as it was, but that a walk of its is stopped
abbrev pub after_take : Device → Device
after_take d = with_bus (walk_stopped d.bus) d

-- the view stands at the start of the command's order, on a drive of so many sectors
abbrev pub IsOrdered : View → ℕ → ℕ → Type 0
IsOrdered v command sectors =
    v.file.phase ≡ Busy (taken (order_of command (inputs v.file) sectors)) 0

-- the drive's bus master after a give: the view's where the command uses it, with the drive's own error
-- and interrupt bits
abbrev pub bus_given : View → Bus → Bus
bus_given v b = if uses_bus v then record v.bus { error = b.error; interrupt = b.interrupt } else b

-- the drive after a give: it is at work on the command, over the registers of the view
abbrev pub after_give : View → ℕ → Device → Device
after_give v command d =
    record d { file = record v.file { command = command }; bus = bus_given v d.bus }

-- Error is 00h, and Status that of a drive at rest whose last command went well (own)
abbrev pub shows_well : TaskFile → Bool
shows_well f = (status f == STATUS_IDLE) && (f.error == 0)

-- a guest would see nothing of the monitor's going: all is well in the view, nothing pends, no walk was
-- begun, and no own command stands (own)
abbrev pub is_clean : View → Bool → Bool
is_clean v own =
    shows_well v.file && not v.file.pending && not v.bus.start && not v.bus.error && not own

-- the drive after the monitor's removal: over the registers and the bus master of the view, with its own
-- error and interrupt bits
abbrev pub after_remove : View → Device → Device
after_remove v d = record d {
  file = record v.file { command = d.file.command };
  bus = record v.bus { error = d.bus.error; interrupt = d.bus.interrupt };
}
