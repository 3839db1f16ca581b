-- Which commands of the guest's a world marks, said of the plain drive that its guest sees.
use Rattle.std.specs.Prelude.{◌≡◌, ◌&&◌, ◌||◌, if◌then◌else◌, Bool, true, false, List, [], ◌∷◌, Option, Some, None, is_some}
use Rattle.ata_taskfile.specs.declared.Access.TheVariants as access
use Rattle.ata_taskfile.specs.declared.Taken.{Taken}
use Rattle.ata_taskfile.specs.declared.Taken.TheVariants.{Good, Bad}
use Rattle.ata_taskfile.specs.Order.{has_range}
use Rattle.fill_bitmap.specs.declared.area.Area.{Area}
use Rattle.guest_view.specs.View.{takes_command}
use Rattle.io_interpret.specs.Blocks.{touches_empty}
use Rattle.io_interpret.specs.Class.{reaches_reserved}
use Rattle.plain_drive.specs.Physical.{Physical, seen}
use Rattle.plain_drive.specs.Plain.{Plain}
use Rattle.schedule_text.specs.declared.Event.{Event}
use Rattle.schedule_text.specs.declared.Event.TheVariants as event
use Rattle.schedule_text.specs.declared.Item.{Item}
use Rattle.schedule_text.specs.declared.Item.TheVariants as item
use Rattle.monitor_state.specs.Seen.{Shows}
use Rattle.plain_run.specs.Entry.{Entry}
use Rattle.streaming.specs.Sources.{is_write}
use Rattle.monitor_access.specs.Marks.{mark_over, order_written}
use Rattle.mediator.specs.declared.mediator.Mediator.{Mediator}
use Rattle.mediator.specs.Mediator.{parts_of, state_of}

-- beside a monitor and its drive the guest sees this plain drive
abbrev pub IsSeenIn : Mediator → Physical → Plain → Type 0
IsSeenIn m p q = Shows (state_of m) (parts_of m) (seen p).device p.memory q

-- the plain drive takes a command in this event that the monitor refuses: one that names a reserved sector, or, for
-- now, writes to an empty block (own)
abbrev pub takes_refused : Event → Plain → Mediator → Bool
takes_refused (event.Write8 r v) q m =
    is_some (mark_over q.device.file (parts_of m) (access.Write8 r v))
takes_refused other q m = false

-- one of these items marks a command
abbrev pub marks : List Item → Bool
marks [] = false
marks (item.Reserved ∷ items) = true
marks (other ∷ items) = marks items

-- an event with these items is marked exactly where each plain drive that the guest may see takes a refused command
abbrev pub IsMarkedRight : Event → Mediator → Physical → List Item → Type 0
IsMarkedRight one m p items = (q : Plain) → IsSeenIn m p q → marks items ≡ takes_refused one q m

-- the order of the command that a plain drive takes in an event, where it takes one
abbrev pub order_taken : Event → Plain → Option Taken
order_taken (event.Write8 r v) q =
    if takes_command (access.Write8 r v) q.device.file
    then Some (order_written (access.Write8 r v) q.device.file q.device.sectors) else None
order_taken other q = None

-- a command that reads, writes or verifies a range which reaches the reserved sectors
abbrev pub names_reserved : Area → Option Taken → Bool
names_reserved area None = false
names_reserved area (Some (Bad reason)) = false
names_reserved area (Some (Good request)) =
    has_range request.kind && reaches_reserved request area

-- a command that writes a sector of a block that isn't among these
abbrev pub writes_outside : Area → List Bool → Option Taken → Bool
writes_outside area blocks None = false
writes_outside area blocks (Some (Bad reason)) = false
writes_outside area blocks (Some (Good request)) =
    is_write request.kind && touches_empty area blocks request.first request.count

-- the items of an event mark a command exactly where the plain drive takes one that names a reserved sector or, for
-- now, that writes to a block which isn't among these (own)
abbrev pub MarksRightly : Area → List Bool → Entry → Plain → Type 0
MarksRightly area blocks entry q = marks entry.items
    ≡ (names_reserved area (order_taken entry.event q)
    || writes_outside area blocks (order_taken entry.event q))
