-- Which access is marked in the report, and that none begins a command on the drive.
use Rattle.std.specs.Prelude.{ℕ, ◌≡◌, true, if◌then◌else◌, Option, Some, None}
use Rattle.ata_taskfile.specs.declared.Access.{Access}
use Rattle.ata_taskfile.specs.declared.Taken.{Taken}
use Rattle.ata_taskfile.specs.declared.task_file.TaskFile.{TaskFile}
use Rattle.ata_taskfile.specs.Device.{Device}
use Rattle.ata_taskfile.specs.Lawful.{is_just_taken}
use Rattle.ata_taskfile.specs.Order.{inputs, order_of, taken}
use Rattle.schedule_text.specs.declared.Item.{Item}
use Rattle.schedule_text.specs.declared.Item.TheVariants as item
use Rattle.guest_view.specs.View.{byte_written, takes_command}
use Rattle.monitor_state.specs.declared.state.State.{State}
use Rattle.monitor_state.specs.declared.parts.Parts.{Parts}
use Rattle.monitor_state.specs.Classes.{is_refused}
use Rattle.monitor_state.specs.Seen.{file_seen}

-- the order that the byte of an access gives over these registers, on a drive of so many sectors
abbrev pub order_written : Access → TaskFile → ℕ → Taken
order_written a f sectors = taken (order_of (byte_written a) (inputs f) sectors)

-- the mark of an order that was taken: one that the monitor refuses has one
abbrev pub mark_for : Taken → Parts → Option Item
mark_for order p = if is_refused order p then Some item.Reserved else None

-- the mark of an access over these registers: only one that writes a command which is taken has one
abbrev pub mark_over : TaskFile → Parts → Access → Option Item
mark_over f p a =
    if takes_command a f then mark_for (order_written a f p.area.sectors) p else None

-- the mark of an access, over the registers that the guest sees (own)
abbrev pub mark_due : State → Parts → Device → Access → Option Item
mark_due s p d a = mark_over (file_seen s d) p a

-- no command begins on the drive: it is at work on one of which nothing is done only where it was so before
abbrev pub TakesNone : TaskFile → TaskFile → Type 0
TakesNone old new = is_just_taken new.phase ≡ true → is_just_taken old.phase ≡ true
