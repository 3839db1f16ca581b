-- What is due of an event is told once each: its answer, its plan and its command.
use Rattle.std.proofs.Common.{◌≡◌, ◌++◌, ℕ, zero, suc, List, [], ◌∷◌, Bool, true, false, Option, Some, None, refl, sym, ap, ◌∙◌, append-nil}
use Rattle.std.specs.Prelude.{if◌then◌else◌}
use Rattle.ata_taskfile.specs.declared.Phase.{Phase}
use Rattle.ata_taskfile.specs.declared.Phase.TheVariants.{Reset, Idle, Busy, Ready}
use Rattle.ata_taskfile.specs.declared.Step.{Step}
use Rattle.ata_taskfile.specs.declared.Step.TheVariants as step
use Rattle.ata_taskfile.specs.declared.Taken.{Taken}
use Rattle.ata_taskfile.specs.declared.Taken.TheVariants.{Good, Bad}
use Rattle.ata_taskfile.specs.declared.task_file.TaskFile.{TaskFile}
use Rattle.ata_taskfile.specs.Order.{has_range}
use Rattle.ata_taskfile.specs.Lawful.{is_just_taken}
use Rattle.plain_drive.specs.Plain.{Plain}
use Rattle.plain_drive.specs.Step.{acts}
use Rattle.plain_drive.specs.Physical.{Physical, seen}
use Rattle.schedule_text.specs.declared.Event.{Event}
use Rattle.schedule_text.specs.declared.Event.TheVariants as event
use Rattle.schedule_text.specs.declared.Item.{Item}
use Rattle.schedule_text.specs.declared.Item.TheVariants as item
use Rattle.plain_run.specs.Entry.{answer_bytes, answer_items, answers_in, plan_in, commands_in, entry_of, items_due}
use Rattle.plain_run.specs.Guest.{answer_due}
use Rattle.plain_run.specs.Run.{DriveEvent, drive_due, physical_event, plan_due, step_item}
use Rattle.schedule_text.specs.Taken.{commands_due, just_taken, command_item}

-- what is looked for in two lists, one behind the other
pub answers_behind : (items last : List Item) → answers_in (items ++ last) ≡ answers_in items ++ answers_in last
answers_behind [] last = refl
answers_behind (item.Answer ∷ items) last = ap (λ xs. item.Answer ∷ xs) (answers_behind items last)
answers_behind (one ∷ items) last = answers_behind items last

pub plan_behind : (items last : List Item) → plan_in (items ++ last) ≡ plan_in items ++ plan_in last
plan_behind [] last = refl
plan_behind (item.Go n ∷ items) last = ap (λ xs. item.Go n ∷ xs) (plan_behind items last)
plan_behind (item.Bad ∷ items) last = ap (λ xs. item.Bad ∷ xs) (plan_behind items last)
plan_behind (one ∷ items) last = plan_behind items last

pub commands_behind : (items last : List Item) → commands_in (items ++ last) ≡ commands_in items ++ commands_in last
commands_behind [] last = refl
commands_behind (item.Command byte first count ∷ items) last =
    ap (λ xs. item.Command byte first count ∷ xs) (commands_behind items last)
commands_behind (one ∷ items) last = commands_behind items last

-- of these items these are answers, plan items and commands
record Has (items all_answers all_plan all_commands : List Item) : Type 0 where
  answers : answers_in items ≡ all_answers
  plan : plan_in items ≡ all_plan
  commands : commands_in items ≡ all_commands

-- of an answer's items all are answers
answer_has : (answer : Option (List ℕ)) → Has (answer_items answer) (answer_items answer) [] []
answer_has None = record { answers = refl; plan = refl; commands = refl }
answer_has (Some bytes) = record { answers = refl; plan = refl; commands = refl }

-- of a plan's all are plan items
step_has : (s : Step) (acting : Bool) → Has (if acting then step_item s ∷ [] else []) []
    (if acting then step_item s ∷ [] else []) []
step_has step.Good true = record { answers = refl; plan = refl; commands = refl }
step_has step.Bad true = record { answers = refl; plan = refl; commands = refl }
step_has s false = record { answers = refl; plan = refl; commands = refl }

plan_has : (one : Event) (p : Plain) → Has (plan_due one p) [] (plan_due one p) []
plan_has (event.Drive s) p = step_has s (acts s p)
plan_has one p = record { answers = refl; plan = refl; commands = refl }

-- of the items of a command that was taken all are commands
item_has : (byte : ℕ) (order : Taken) → Has (command_item byte order ∷ []) [] [] (command_item byte order ∷ [])
item_has byte (Bad reason) = record { answers = refl; plan = refl; commands = refl }
item_has byte (Good order) = by_range (has_range order.kind)
  where
    by_range : (ranged : Bool) → Has
        ((if ranged then item.Command byte order.first order.count else item.Command byte 0 0) ∷ []) [] []
        ((if ranged then item.Command byte order.first order.count else item.Command byte 0 0) ∷ [])
    by_range true = record { answers = refl; plan = refl; commands = refl }
    by_range false = record { answers = refl; plan = refl; commands = refl }

just_has : (byte : ℕ) (phase : Phase) → Has (just_taken byte phase) [] [] (just_taken byte phase)
just_has byte Reset = record { answers = refl; plan = refl; commands = refl }
just_has byte Idle = record { answers = refl; plan = refl; commands = refl }
just_has byte (Ready order done left) = record { answers = refl; plan = refl; commands = refl }
just_has byte (Busy order (suc done)) = record { answers = refl; plan = refl; commands = refl }
just_has byte (Busy order zero) = item_has byte order

unless_has : (before : Bool) (items : List Item) → Has items [] [] items
    → Has (if before then [] else items) [] [] (if before then [] else items)
unless_has true items all = record { answers = refl; plan = refl; commands = refl }
unless_has false items all = all

commands_has : (old new : TaskFile) → Has (commands_due old new) [] [] (commands_due old new)
commands_has old new = unless_has (is_just_taken old.phase) (just_taken new.command new.phase)
    (just_has new.command new.phase)

-- three lists of items, one behind the other, of which the first are answers, the next a plan, and the last commands
three_have : (answers plan commands : List Item) → Has answers answers [] [] → Has plan [] plan []
    → Has commands [] [] commands → Has (answers ++ plan ++ commands) answers plan commands
three_have answers plan commands a p c = record {
  answers = answers_behind (answers ++ plan) commands
      ∙ ap (λ xs. xs ++ answers_in commands) (answers_behind answers plan)
      ∙ rw (a.answers, p.answers, c.answers) (append-nil (answers ++ []) ∙ append-nil answers);
  plan = plan_behind (answers ++ plan) commands ∙ ap (λ xs. xs ++ plan_in commands) (plan_behind answers plan)
      ∙ rw (a.plan, p.plan, c.plan) (append-nil plan);
  commands = commands_behind (answers ++ plan) commands
      ∙ ap (λ xs. xs ++ commands_in commands) (commands_behind answers plan)
      ∙ rw (a.commands, p.commands, c.commands) refl;
}

-- so each part of what is due of a drive's event is found among its items, and nothing else is
module _ (one : Event) (old new : Physical) where
  due_has : Has (items_due (drive_due one old new)) (answer_items (answer_due one (seen old)))
      (plan_due one (seen old)) (commands_due old.file new.file)
  due_has = three_have _ _ _ (answer_has (answer_due one (seen old))) (plan_has one (seen old))
      (commands_has old.file new.file)

  pub answers_told : answers_in (items_due (drive_due one old new)) ≡ answer_items (answer_due one (seen old))
  answers_told = due_has.answers

  pub plan_told : plan_in (items_due (drive_due one old new)) ≡ plan_due one (seen old)
  plan_told = due_has.plan

  pub commands_told : commands_in (items_due (drive_due one old new)) ≡ commands_due old.file new.file
  commands_told = due_has.commands

-- an event whose answer and plan are told notes the command that it takes behind them
pub drive_event_noted : (one : Event) (items : List Item) (bytes : List ℕ) (old new : Physical)
    → new ≡ physical_event one old
    → items ≡ answer_items (answer_due one (seen old)) ++ plan_due one (seen old)
    → bytes ≡ answer_bytes (answer_due one (seen old)) → is_just_taken old.file.phase ≡ false
    → DriveEvent old (entry_of one (items ++ just_taken new.file.command new.file.phase) bytes) new
drive_event_noted one items bytes old new after told answer before = record {
  after = after;
  items = rw (told, before) refl;
  bytes = answer;
}

-- where one was just taken before, none is noted
pub drive_event_unnoted : (one : Event) (items : List Item) (bytes : List ℕ) (old new : Physical)
    → new ≡ physical_event one old
    → items ≡ answer_items (answer_due one (seen old)) ++ plan_due one (seen old)
    → bytes ≡ answer_bytes (answer_due one (seen old)) → is_just_taken old.file.phase ≡ true
    → DriveEvent old (entry_of one items bytes) new
drive_event_unnoted one items bytes old new after told answer before = record {
  after = after;
  items = told ∙ sym (append-nil _) ∙ rw before refl;
  bytes = answer;
}
