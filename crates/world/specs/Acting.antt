-- Inner: what an event does to a monitor and its drive.
use Rattle.std.specs.Prelude.{ℕ, ◌≡◌, ◌↔◌, ◌++◌, ◌&&◌, true, not, List, slice_get, Option, Some, None}
use Rattle.bm_host.specs.Outside.{Outside}
use Rattle.bm_host.specs.declared.Role.TheVariants.{Image}
use Rattle.ata_taskfile.specs.Accesses.{Reaches}
use Rattle.ata_taskfile.specs.Device.{Device}
use Rattle.aoe_net.specs.declared.way.Way.TheVariants.{ToClient}
use Rattle.aoe_net.specs.Wire.{Wire}
use Rattle.aoe_client.specs.Asking.{due_tags}
use Rattle.image_server.specs.Serving.{LooksAtMost}
use Rattle.plain_drive.specs.Physical.{Physical, seen}
use Rattle.schedule_text.specs.declared.Event.{Event}
use Rattle.schedule_text.specs.declared.Event.TheVariants as event
use Rattle.schedule_text.specs.declared.Item.{Item}
use Rattle.schedule_text.specs.declared.Item.TheVariants.{Forged}
use Rattle.plain_run.specs.Entry.{Entry}
use Rattle.plain_run.specs.Run.{DriveEvent}
use Rattle.monitor_access.specs.Marks.{TakesNone}
use Rattle.streaming.specs.Client.{ActsOnClient}
use Rattle.streaming.specs.Monitor.{MayTellUnder, TakesStray, Watched, answer_if, asked_items, item_of, reads}
use Rattle.streaming.specs.Network.{NetworkEvent, handed_to_server, taken_out}
use Rattle.streaming.specs.Told.{command_told, tells_ready}
use Rattle.streaming.specs.Trace.{IsTraced}
use Rattle.streaming.specs.World.{IsMonitored}
use Rattle.world.specs.Conveying.{Conveys}

-- what an event made of a drive and its monitor, of whose network there is this, and of the items that it gave, before
-- the requests that are due are sent
pub record HasActed (one : Event) (wire : Wire) (p q : Physical) (old new : Watched)
    (items : List Item) : Type 0 where
  pub told : Option Item
  pub traced : IsTraced one (command_told told) p q
  pub items_are : items ≡ answer_if (reads one) ++ item_of told ++ asked_items (due_tags new.asking)
  pub may : MayTellUnder one told
  pub acts : ActsOnClient one wire old.asking new.asking
  pub ready : tells_ready told ≡ (not old.opened && new.opened)
  pub stays : old.opened ≡ true → new.opened ≡ true
  pub forged : (told ≡ Some Forged) ↔ TakesStray one old.asking

-- accesses of the guest's were made on a drive and its monitor
pub record HasAccessed (p q : Physical) (old new : Watched) : Type 0 where
  pub reached : (origin : Device) → Reaches origin (seen p).device
      → Reaches origin (seen q).device
  pub kept : q.kept ≡ p.kept
  pub memory : q.memory ≡ p.memory
  pub takes : TakesNone p.file q.file
  pub watched : new ≡ old

-- the reply that an event hands to the client
abbrev pub delivered : Event → Wire → Option (List ℕ)
delivered (event.Deliver ToClient k keep) wire = slice_get wire.to_client k
delivered other wire = None

-- one event of a monitor, its drive and their network, from one outside to another: it is monitored, and one of the
-- network, and no more of the image is looked at than goes into the server's reply
pub record IsDeployed (sectors : ℕ) (outside after : Outside) (wire left : Wire) (p q : Physical)
    (old : Watched) (entry : Entry) (new : Watched) : Type 0 where
  pub monitored : IsMonitored wire p q old entry new
  pub count : ℕ
  pub network : NetworkEvent sectors (outside.told Image) wire entry left count
  pub looked : LooksAtMost count outside after

-- one event of a drive and a network without a monitor, from one outside to another: no one hears a reply
pub record IsAlone (sectors : ℕ) (outside after : Outside) (wire left : Wire) (p q : Physical)
    (entry : Entry) : Type 0 where
  pub drive : DriveEvent p entry q
  pub conveys : Conveys sectors outside after (handed_to_server entry.event wire)
      (taken_out entry.event wire) left
