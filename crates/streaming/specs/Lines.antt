-- What the calls of a monitor told so far, and which calls an event makes. Lists have the newest first.
use Rattle.std.specs.Prelude.{ℕ, ◌≡◌, Bool, true, false, List, [], ◌∷◌, Option, Some, None, IfSome}
use Rattle.ata_taskfile.specs.declared.Access.{Access}
use Rattle.ata_taskfile.specs.declared.Step.{Step}
use Rattle.ata_taskfile.specs.declared.Stepped.{Stepped}
use Rattle.ata_taskfile.specs.declared.Taken.{Taken}
use Rattle.ata_taskfile.specs.declared.Phase.{Phase}
use Rattle.ata_taskfile.specs.declared.Phase.TheVariants.{Reset, Idle, Busy, Ready}
use Rattle.ata_taskfile.specs.declared.task_file.TaskFile.{TaskFile}
use Rattle.aoe_net.specs.Wire.{Wire}
use Rattle.plain_drive.specs.Alike.{after_access}
use Rattle.plain_drive.specs.Plain.{Plain}
use Rattle.schedule_text.specs.declared.Event.{Event}
use Rattle.schedule_text.specs.declared.Event.TheVariants as event
use Rattle.schedule_text.specs.declared.Item.{Item}
use Rattle.schedule_text.specs.Taken.{command_item}
use Rattle.plain_run.specs.Entry.{commands_in}
use Rattle.plain_run.specs.Guest.{accesses_of}
use Rattle.streaming.specs.Network.{handed_to_client}

-- a call of the monitor: an access of the guest, a turn, a step that the drive made, a tick, a frame that came, with
-- whether it was a stray one, or the power that came on again (own)
pub data Call : Type 0 where
  of_access : Access → Call
  of_turn : Call
  of_step : Step → Stepped → Call
  of_tick : Call
  of_frame : List ℕ → Bool → Call
  of_power_on : Call

-- one call, the plain drive before it, and the items that it gave
pub record Line : Type 0 where
  pub call : Call
  pub plain : Plain
  pub items : List Item

-- the line of a call, of the plain drive before it, with the items that it gave
abbrev pub line_of : Call → Plain → List Item → Line
line_of call q items = record { call = call; plain = q; items = items }

-- the lines of the guest's accesses, one after the other, and the lines before them; none of them gives an item
abbrev pub with_accesses : List Access → Plain → List Line → List Line
with_accesses [] q lines = lines
with_accesses (a ∷ more) q lines =
    with_accesses more (after_access a q) (line_of (of_access a) q [] ∷ lines)

-- the line of a frame that comes, where one does
abbrev pub with_frame : Option (List ℕ) → Bool → Plain → List Item → List Line → List Line
with_frame None stray q items lines = lines
with_frame (Some frame) stray q items lines = line_of (of_frame frame stray) q items ∷ lines

-- a frame that comes in an event is a stray one
abbrev pub is_stray : Event → Bool
is_stray (event.Stray way frame) = true
is_stray other = false

-- the lines of the monitor's calls in an event over this network and this plain drive, which gave these items, and the
-- lines before it; a step of the drive has this effect (own)
abbrev pub lines_after : Event → Wire → Stepped → Plain → List Item → List Line → List Line
lines_after (event.Drive s) wire effect q items lines = line_of (of_step s effect) q items ∷ lines
lines_after event.Turn wire effect q items lines = line_of of_turn q items ∷ lines
lines_after event.Tick wire effect q items lines = line_of of_tick q items ∷ lines
lines_after one wire effect q items lines = with_frame (handed_to_client one wire) (is_stray one) q
    items (with_accesses (accesses_of one) q lines)

-- the first of these commands, and where there is none, the one that was told before
abbrev pub newest_of : List Item → Option Item → Option Item
newest_of [] before = before
newest_of (command ∷ commands) before = Some command

-- the command that was told last
abbrev pub last_command : List Line → Option Item
last_command [] = None
last_command (line ∷ lines) = newest_of (commands_in line.items) (last_command lines)

-- the order that is in hand in a phase
abbrev pub order_in_hand : Phase → Option Taken
order_in_hand Reset = None
order_in_hand Idle = None
order_in_hand (Busy order done) = Some order
order_in_hand (Ready order done left) = Some order

-- the command that the drive has in hand is the one that was told last
abbrev pub IsTold : TaskFile → List Line → Type 0
IsTold f lines =
    IfSome (order_in_hand f.phase) (λ order. last_command lines ≡ Some (command_item f.command order))
