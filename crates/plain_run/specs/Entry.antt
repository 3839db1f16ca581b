-- An event with what the report says of it, and the text of reports. Lists of entries have the
-- newest first.
use Rattle.std.specs.Prelude.{ℕ, ◌+◌, ◌++◌, Bool, true, false, List, [], ◌∷◌, length, Option, Some, None}
use Rattle.schedule_text.specs.declared.Event.{Event}
use Rattle.schedule_text.specs.declared.Item.{Item}
use Rattle.schedule_text.specs.declared.Item.TheVariants as item
use Rattle.schedule_text.specs.Report.{line_text, end_text}

-- an event, the report's items for it in order, and the bytes of its answer
pub record Entry : Type 0 where
  pub event : Event
  pub items : List Item
  pub bytes : List ℕ

-- the events of a history
abbrev pub events_of : List Entry → List Event
events_of [] = []
events_of (entry ∷ earlier) = entry.event ∷ events_of earlier

-- the report's lines for one event, whose line has this number
abbrev pub items_text : ℕ → List Item → List ℕ → List ℕ
items_text number [] bytes = []
items_text number (one ∷ items) bytes = line_text number one bytes ++ items_text number items bytes

-- the report's lines for all events; an event's number is that of its line, from 1 on
abbrev pub history_text : List Entry → List ℕ
history_text [] = []
history_text (entry ∷ earlier) =
    history_text earlier ++ items_text (length earlier + 1) entry.items entry.bytes

-- a whole report
abbrev pub report_text : List Entry → List ℕ
report_text entries = history_text entries ++ end_text (length entries)

-- what is due of an event: the bytes of its answer, where it has one, then the plan of the plain
-- drive, then the command that the drive took (own)
pub record Due : Type 0 where
  pub answer : Option (List ℕ)
  pub plan : List Item
  pub commands : List Item

-- the item of an answer
abbrev pub answer_items : Option (List ℕ) → List Item
answer_items None = []
answer_items (Some bytes) = item.Answer ∷ []

-- the bytes of an answer, none where there is none
abbrev pub answer_bytes : Option (List ℕ) → List ℕ
answer_bytes None = []
answer_bytes (Some bytes) = bytes

-- an event's items as one list, in the order of what is due
abbrev pub items_due : Due → List Item
items_due due = answer_items due.answer ++ due.plan ++ due.commands

-- the answers among an event's items
abbrev pub answers_in : List Item → List Item
answers_in [] = []
answers_in (item.Answer ∷ items) = item.Answer ∷ answers_in items
answers_in (other ∷ items) = answers_in items

-- the plan items: what the report says that the plain drive did
abbrev pub plan_in : List Item → List Item
plan_in [] = []
plan_in (item.Go n ∷ items) = item.Go n ∷ plan_in items
plan_in (item.Bad ∷ items) = item.Bad ∷ plan_in items
plan_in (other ∷ items) = plan_in items

-- the items that say that the drive took a command
abbrev pub commands_in : List Item → List Item
commands_in [] = []
commands_in (item.Command byte first count ∷ items) =
    item.Command byte first count ∷ commands_in items
commands_in (other ∷ items) = commands_in items

-- an item that a monitor alone gives: a request that it sent, or a mark
abbrev pub is_monitors : Item → Bool
is_monitors item.Answer = false
is_monitors (item.Go n) = false
is_monitors item.Bad = false
is_monitors (item.Command byte first count) = false
is_monitors (item.Asked tag) = true
is_monitors item.Ready = true
is_monitors item.Left = true
is_monitors item.Reserved = true
is_monitors item.Forged = true

-- an event with its items and its answer
abbrev pub entry_of : Event → List Item → List ℕ → Entry
entry_of one items bytes = record { event = one; items = items; bytes = bytes }
