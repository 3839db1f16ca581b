-- Where a report says that the drive took a command.
use Rattle.std.specs.Prelude.{ℕ, zero, suc, List, [], ◌∷◌, if◌then◌else◌}
use Rattle.ata_taskfile.specs.declared.Taken.{Taken}
use Rattle.ata_taskfile.specs.declared.Taken.TheVariants.{Good, Bad}
use Rattle.ata_taskfile.specs.declared.Phase.{Phase}
use Rattle.ata_taskfile.specs.declared.Phase.TheVariants.{Reset, Idle, Busy, Ready}
use Rattle.ata_taskfile.specs.declared.task_file.TaskFile.{TaskFile}
use Rattle.ata_taskfile.specs.Order.{has_range}
use Rattle.ata_taskfile.specs.Lawful.{is_just_taken}
use Rattle.schedule_text.specs.declared.Item.{Item}
use Rattle.schedule_text.specs.declared.Item.TheVariants as item

-- what a report says of a taken command: its byte and its range, 0 and 0 where it has none or is
-- refused (own)
abbrev pub command_item : ℕ → Taken → Item
command_item byte (Good order) =
    if has_range order.kind
    then item.Command byte order.first order.count
    else item.Command byte 0 0
command_item byte (Bad reason) = item.Command byte 0 0

-- the item of a command that was just taken: the drive is busy with it at position 0
abbrev pub just_taken : ℕ → Phase → List Item
just_taken byte (Busy order zero) = command_item byte order ∷ []
just_taken byte (Busy order (suc done)) = []
just_taken byte Reset = []
just_taken byte Idle = []
just_taken byte (Ready order done left) = []

-- the command items of an event: one exactly where the drive is at work after it on a command of
-- which nothing is done, and wasn't before
abbrev pub commands_due : TaskFile → TaskFile → List Item
commands_due old new = if is_just_taken old.phase then [] else just_taken new.command new.phase
