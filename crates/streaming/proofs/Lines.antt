-- The lines of a monitored event.
use Rattle.std.proofs.Common.{◌≡◌, ◌≢◌, ◌++◌, ℕ, Bool, true, false, List, [], ◌∷◌, Option, refl, sym, ap, ◌∙◌, arith, append-nil}
use Rattle.std.specs.Prelude.{map}
use Rattle.aoe_net.specs.Wire.{Wire}
use Rattle.aoe_client.specs.Asking.{due_tags}
use Rattle.aoe_client.specs.Messages.{request_frame}
use Rattle.plain_drive.specs.Physical.{Physical}
use Rattle.schedule_text.specs.declared.Event.{Event}
use Rattle.schedule_text.specs.declared.Event.TheVariants as event
use Rattle.schedule_text.specs.declared.Item.{Item}
use Rattle.schedule_text.specs.Taken.{commands_due}
use Rattle.plain_run.specs.Entry.{Entry, answers_in, commands_in, plan_in}
use Rattle.plain_run.proofs.Told.{answers_behind, commands_behind, plan_behind}
use Rattle.streaming.specs.Network.{requests_in}
use Rattle.streaming.specs.Told.{command_told, tells_ready}
use Rattle.streaming.specs.Monitor.{MayTellUnder, MonitorEvent, Watched, answer_if, asked_items, item_of, reads}
use Rattle.streaming.specs.World.{IsMonitored}
use Rattle.streaming.proofs.Requests.{requests_behind}

-- that opening has ended is told under a turn alone
may_ready : (one : Event) (told : Option Item) → MayTellUnder one told → tells_ready told ≡ true → one ≡ event.Turn
may_ready one told may ready = grind arith

-- and so is a command
may_command : (one : Event) (told : Option Item) → MayTellUnder one told → command_told told ≢ [] → one ≡ event.Turn
may_command one told may some = grind arith

-- no event tells an answer or a request beside its own
may_answer : (one : Event) (told : Option Item) → MayTellUnder one told → answers_in (item_of told) ≡ []
may_answer one told may = grind arith

may_request : (one : Event) (told : Option Item) → MayTellUnder one told → requests_in (item_of told) ≡ []
may_request one told may = grind arith

-- of what it tells a command alone is one
told_command : (told : Option Item) → commands_in (item_of told) ≡ command_told told
told_command told = grind arith

-- of an answer's items all are answers
answer_alone : (b : Bool) → answers_in (answer_if b) ≡ answer_if b
answer_alone true = refl
answer_alone false = refl

answer_no_plan : (b : Bool) → plan_in (answer_if b) ≡ []
answer_no_plan true = refl
answer_no_plan false = refl

answer_no_command : (b : Bool) → commands_in (answer_if b) ≡ []
answer_no_command true = refl
answer_no_command false = refl

answer_no_request : (b : Bool) → requests_in (answer_if b) ≡ []
answer_no_request true = refl
answer_no_request false = refl

-- and of those of requests all are requests
asked_no_answer : (tags : List ℕ) → answers_in (asked_items tags) ≡ []
asked_no_answer [] = refl
asked_no_answer (tag ∷ tags) = asked_no_answer tags

asked_no_plan : (tags : List ℕ) → plan_in (asked_items tags) ≡ []
asked_no_plan [] = refl
asked_no_plan (tag ∷ tags) = asked_no_plan tags

asked_no_command : (tags : List ℕ) → commands_in (asked_items tags) ≡ []
asked_no_command [] = refl
asked_no_command (tag ∷ tags) = asked_no_command tags

asked_requests : (tags : List ℕ) → requests_in (asked_items tags) ≡ map request_frame tags
asked_requests [] = refl
asked_requests (tag ∷ tags) = ap (λ frames. request_frame tag ∷ frames) (asked_requests tags)

-- so each part of its items is found among them, and nothing else is
module _ (wire : Wire) (told : Option Item) (old new : Watched) (entry : Entry)
    (one : MonitorEvent wire told old entry new) where
  abbrev answer : List Item
  answer = answer_if (reads entry.event)

  abbrev asked : List Item
  asked = asked_items (due_tags one.due)

  pub event_answers : answers_in entry.items ≡ answer
  event_answers =
      ap answers_in one.items
      ∙ answers_behind (answer ++ item_of told) asked
      ∙ ap (λ items. items ++ answers_in asked) (answers_behind answer (item_of told))
      ∙ rw (answer_alone (reads entry.event), may_answer entry.event told one.may, asked_no_answer (due_tags one.due))
      (append-nil (answer ++ []) ∙ append-nil answer)

  pub event_plan : plan_in entry.items ≡ plan_in (item_of told)
  event_plan =
      ap plan_in one.items
      ∙ plan_behind (answer ++ item_of told) asked
      ∙ ap (λ items. items ++ plan_in asked) (plan_behind answer (item_of told))
      ∙ rw (answer_no_plan (reads entry.event), asked_no_plan (due_tags one.due)) (append-nil (plan_in (item_of told)))

  pub event_commands : commands_in entry.items ≡ command_told told
  event_commands =
      ap commands_in one.items
      ∙ commands_behind (answer ++ item_of told) asked
      ∙ ap (λ items. items ++ commands_in asked) (commands_behind answer (item_of told))
      ∙ rw (answer_no_command (reads entry.event), asked_no_command (due_tags one.due), told_command told)
      (append-nil (command_told told))

  pub event_requests : requests_in entry.items ≡ map request_frame (due_tags one.due)
  event_requests =
      ap requests_in one.items
      ∙ requests_behind (answer ++ item_of told) asked
      ∙ ap (λ items. items ++ requests_in asked) (requests_behind answer (item_of told))
      ∙ rw (
        answer_no_request (reads entry.event),
        may_request entry.event told one.may,
        asked_requests (due_tags one.due),
      ) refl

  pub ready_turn : tells_ready told ≡ true → entry.event ≡ event.Turn
  ready_turn ready = may_ready entry.event told one.may ready

  pub ready_once : old.opened ≡ true → tells_ready told ≡ false
  ready_once opened = one.ready ∙ rw opened refl

-- its commands are those that the drive took
pub monitored_commands : (wire : Wire) (from to : Physical) (old new : Watched) (entry : Entry)
    → IsMonitored wire from to old entry new → commands_in entry.items ≡ commands_due from.file to.file
monitored_commands wire from to old new entry one =
    event_commands wire one.told old new entry one.monitor ∙ one.drive.commands_are

pub commands_turn : (wire : Wire) (from to : Physical) (old new : Watched) (entry : Entry)
    → IsMonitored wire from to old entry new → commands_due from.file to.file ≢ [] → entry.event ≡ event.Turn
commands_turn wire from to old new entry one some =
    may_command entry.event one.told one.monitor.may (λ none. some (sym one.drive.commands_are ∙ none))
