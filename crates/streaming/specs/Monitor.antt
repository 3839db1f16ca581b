-- What a report shows of a monitor, and one event of it.
use Rattle.std.specs.Prelude.{ℕ, ◌≡◌, ◌↔◌, ◌++◌, ◌&&◌, Bool, true, false, not, List, [], ◌∷◌, map, Option, Some, None}
use Rattle.ata_taskfile.specs.declared.Reg.TheVariants.{Status}
use Rattle.aoe_net.specs.declared.way.Way.TheVariants.{ToClient}
use Rattle.aoe_net.specs.Wire.{Wire}
use Rattle.aoe_client.specs.Asking.{Asking, due_tags, nothing_asked}
use Rattle.schedule_text.specs.declared.Event.{Event}
use Rattle.schedule_text.specs.declared.Event.TheVariants as event
use Rattle.schedule_text.specs.declared.Item.{Item}
use Rattle.schedule_text.specs.declared.Item.TheVariants.{Asked}
use Rattle.schedule_text.specs.declared.Item.TheVariants as item
use Rattle.plain_run.specs.Entry.{Entry}
use Rattle.plain_run.specs.Guest.{memory_read}
use Rattle.streaming.specs.Client.{ActsOnClient, TakesFrame, all_sent}
use Rattle.streaming.specs.Told.{MayTell, tells_ready}

-- a monitor as a report shows it: what it asks for, and whether its opening has ended
pub record Watched : Type 0 where
  pub asking : Asking
  pub opened : Bool

-- at power-on, over blocks of so many sectors: it asks for nothing, and opening hasn't ended
abbrev pub watched_at_power_on : ℕ → Watched
watched_at_power_on block = record { asking = nothing_asked block; opened = false }

-- an item, where there is one
abbrev pub item_of : Option Item → List Item
item_of None = []
item_of (Some item) = item ∷ []

-- an item for each request that is sent, in their order
abbrev pub asked_items : List ℕ → List Item
asked_items tags = map Asked tags

-- an event in which the guest reads: it has an answer
abbrev pub reads : Event → Bool
reads (event.Read8 reg) = true
reads (event.ReadWords n) = true
reads event.ReadPointer = true
reads (event.ReadMemory address n) = true
reads event.Line = true
reads other = false

-- the item of an event's answer
abbrev pub answer_if : Bool → List Item
answer_if true = item.Answer ∷ []
answer_if false = []

-- what is said of the bytes of an event's answer under a monitor: those of the guest's own memory are what it holds,
-- and where the guest reads nothing there are none
abbrev pub MayAnswer : Event → List ℕ → List ℕ → Type 0
MayAnswer (event.ReadMemory address n) memory bytes = bytes ≡ memory_read address n memory
MayAnswer one memory bytes = reads one ≡ false → bytes ≡ []

-- what an event may tell beside answer and requests, at most one of these: a turn what it may tell; a step of the drive
-- one step of the guest's drive; a command of the guest's that it is reserved; a stray frame that it was taken (own)
abbrev pub MayTellUnder : Event → Option Item → Type 0
MayTellUnder one None = Unit {0}
MayTellUnder event.Turn (Some told) = MayTell (Some told)
MayTellUnder (event.Drive s) (Some (item.Go n)) = n ≡ 1
MayTellUnder (event.Drive s) (Some item.Bad) = Unit {0}
MayTellUnder (event.Write8 Status v) (Some item.Reserved) = Unit {0}
MayTellUnder (event.Stray ToClient frame) (Some item.Forged) = Unit {0}
MayTellUnder one (Some told) = ⊥

-- the client takes a stray frame
abbrev pub TakesStray : Event → Asking → Type 0
TakesStray (event.Stray ToClient frame) c = TakesFrame frame c
TakesStray other c = ⊥

-- one event of a monitor over this network, which tells this beside answer and requests:
pub record MonitorEvent (wire : Wire) (told : Option Item) (old : Watched) (entry : Entry)
    (new : Watched) : Type 0 where
  -- the client before it sends what is due, and then all that was due is sent
  pub due : Asking
  pub acts : ActsOnClient entry.event wire old.asking due
  pub sent : new.asking ≡ all_sent due
  -- its items are the answer of a read, what it tells, and then the requests that are sent
  pub items : entry.items
      ≡ answer_if (reads entry.event) ++ item_of told ++ asked_items (due_tags due)
  pub may : MayTellUnder entry.event told
  -- that opening has ended is told in the event in which it does, and it doesn't begin again
  pub ready : tells_ready told ≡ (not old.opened && new.opened)
  pub stays : old.opened ≡ true → new.opened ≡ true
  -- a stray frame is marked exactly where the client takes it
  pub forged : (told ≡ Some item.Forged) ↔ TakesStray entry.event old.asking
