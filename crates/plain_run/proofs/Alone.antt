-- A drive without a monitor gives no item of one.
use Rattle.std.proofs.Common.{◌≡◌, ◌++◌, ℕ, zero, suc, List, [], ◌∷◌, Bool, true, false, Option, Some, None, refl, arith}
use Rattle.std.specs.Prelude.{All, if◌then◌else◌}
use Rattle.std.proofs.lemmas.List.Elements.{All-append, All-cons, All-nil}
use Rattle.ata_taskfile.specs.declared.Phase.{Phase}
use Rattle.ata_taskfile.specs.declared.Phase.TheVariants.{Reset, Idle, Busy, Ready}
use Rattle.ata_taskfile.specs.declared.Step.{Step}
use Rattle.ata_taskfile.specs.declared.Step.TheVariants as step
use Rattle.ata_taskfile.specs.declared.Taken.{Taken}
use Rattle.ata_taskfile.specs.declared.Taken.TheVariants.{Good, Bad}
use Rattle.ata_taskfile.specs.declared.task_file.TaskFile.{TaskFile}
use Rattle.ata_taskfile.specs.Lawful.{is_just_taken}
use Rattle.plain_drive.specs.Plain.{Plain}
use Rattle.plain_drive.specs.Step.{acts}
use Rattle.plain_drive.specs.Physical.{Physical, seen}
use Rattle.schedule_text.specs.declared.Event.{Event}
use Rattle.schedule_text.specs.declared.Event.TheVariants as event
use Rattle.schedule_text.specs.declared.Item.{Item}
use Rattle.plain_run.specs.Entry.{Entry, answer_items, is_monitors, items_due}
use Rattle.plain_run.specs.Guest.{answer_due}
use Rattle.plain_run.specs.Run.{DriveEvent, drive_due, plan_due, step_item}
use Rattle.schedule_text.specs.Taken.{command_item, commands_due, just_taken}

-- none of these items is a monitor's
abbrev Alone : List Item → Type 0
Alone items = All (λ one. is_monitors one ≡ false) items

none_alone : Alone []
none_alone = All-nil (λ one. is_monitors one ≡ false)

one_alone : (one : Item) → is_monitors one ≡ false → Alone (one ∷ [])
one_alone one its = All-cons (λ other. is_monitors other ≡ false) one [] its none_alone

either_alone : (one : Bool) (items others : List Item) → Alone items → Alone others
    → Alone (if one then items else others)
either_alone true items others these those = these
either_alone false items others these those = those

answer_alone : (answer : Option (List ℕ)) → Alone (answer_items answer)
answer_alone None = none_alone
answer_alone (Some bytes) = one_alone _ refl

step_alone : (s : Step) → Alone (step_item s ∷ [])
step_alone step.Good = one_alone _ refl
step_alone step.Bad = one_alone _ refl

plan_alone : (one : Event) (p : Plain) → Alone (plan_due one p)
plan_alone (event.Drive s) p = either_alone (acts s p) (step_item s ∷ []) [] (step_alone s) none_alone
plan_alone one p = none_alone

command_alone : (byte : ℕ) (order : Taken) → is_monitors (command_item byte order) ≡ false
command_alone byte (Good order) = grind arith
command_alone byte (Bad reason) = refl

just_alone : (byte : ℕ) (phase : Phase) → Alone (just_taken byte phase)
just_alone byte Reset = none_alone
just_alone byte Idle = none_alone
just_alone byte (Ready order done left) = none_alone
just_alone byte (Busy order (suc done)) = none_alone
just_alone byte (Busy order zero) = one_alone _ (command_alone byte order)

commands_alone : (old new : TaskFile) → Alone (commands_due old new)
commands_alone old new =
    either_alone (is_just_taken old.phase) [] (just_taken new.command new.phase) none_alone
    (just_alone new.command new.phase)

due_alone : (one : Event) (old new : Physical) → Alone (items_due (drive_due one old new))
due_alone one old new =
    let its_own : Item → Type 0 = λ x. is_monitors x ≡ false in
    All-append its_own (answer_items (answer_due one (seen old)) ++ plan_due one (seen old))
    (commands_due old.file new.file)
    (All-append its_own (answer_items (answer_due one (seen old))) (plan_due one (seen old))
    (answer_alone (answer_due one (seen old))) (plan_alone one (seen old)))
    (commands_alone old.file new.file)

pub event_alone : (old new : Physical) (entry : Entry) → DriveEvent old entry new
    → All (λ one. is_monitors one ≡ false) entry.items
event_alone old new entry one = rw one.items (due_alone entry.event old new)
