-- The drive, the guest's memory, the network and the monitor together, and one event of them. Lists of entries have the
-- newest first.
use Rattle.std.specs.Prelude.{ℕ, zero, suc, ◌≡◌, ◌<◌, ◌+◌, true, List, [], ◌∷◌, length, replicate, Option, Some, None, Result}
use Rattle.bm_host.specs.Outside.{Outside}
use Rattle.bm_host.specs.declared.Role.TheVariants.{Image}
use Rattle.aoe_net.specs.Wire.{Wire, nothing_sent}
use Rattle.aoe_frame.specs.declared.message.Aoe.{Aoe}
use Rattle.aoe_frame.specs.declared.message.FrameFault.{FrameFault}
use Rattle.aoe_frame.specs.Reading.{IsReading}
use Rattle.image_server.specs.Reply.{sectors_sent}
use Rattle.image_server.specs.Serving.{LooksAtMost}
use Rattle.plain_drive.specs.Physical.{Physical, fresh, physical_at_power_on}
use Rattle.drive_model.specs.declared.cached_store.TheConstants.{MOST_ENTRIES}
use Rattle.schedule_text.specs.declared.Event.{Event}
use Rattle.schedule_text.specs.declared.Item.{Item}
use Rattle.plain_run.specs.Entry.{Entry}
use Rattle.plain_run.specs.Run.{DriveEvent}
use Rattle.streaming.specs.Network.{NetworkEvent, handed_to_server}
use Rattle.streaming.specs.Built.{is_built}
use Rattle.streaming.specs.Told.{command_told}
use Rattle.streaming.specs.Trace.{IsTraced}
use Rattle.streaming.specs.Monitor.{MayAnswer, MonitorEvent, Watched, watched_at_power_on}

-- a drive at power-on over these sectors, all durable, with a guest's memory of so many zeros
abbrev pub drive_over : ℕ → List (List ℕ) → Physical
drive_over memory sectors =
    physical_at_power_on (fresh MOST_ENTRIES sectors) (length sectors) (replicate memory 0)

-- a drive with the guest's memory, a network, how many sectors the server's image has, and the monitor, where there is
-- one
pub record Scene : Type 0 where
  pub drive : Physical
  pub wire : Wire
  pub image : ℕ
  pub watched : Option Watched

-- the monitor at power-on over blocks of so many sectors; for an empty image there is none (own)
abbrev pub watched_over : ℕ → ℕ → Option Watched
watched_over block zero = None
watched_over block (suc n) = Some (watched_at_power_on block)

-- a drive at power-on over these sectors, with its monitor, and nothing under way
abbrev pub started : ℕ → ℕ → ℕ → List (List ℕ) → Scene
started block memory image sectors = record {
  drive = drive_over memory sectors;
  wire = nothing_sent;
  image = image;
  watched = watched_over block image;
}

-- an event of a drive and its monitor over this network, with what it tells beside answer and requests
pub record IsMonitored (wire : Wire) (from to : Physical) (old : Watched) (entry : Entry)
    (new : Watched) : Type 0 where
  -- for now it isn't one of those that a run with an image doesn't know
  pub built : is_built entry.event ≡ true
  pub told : Option Item
  pub drive : IsTraced entry.event (command_told told) from to
  pub monitor : MonitorEvent wire told old entry new
  pub bytes : MayAnswer entry.event from.memory entry.bytes

-- an event of a drive over this network: with a monitor the drive is traced, and without one it does what the guest
-- does; none comes and none goes
abbrev pub IsActed : Wire → Physical → Physical → Option Watched → Entry → Option Watched → Type 0
IsActed wire from to None entry None = DriveEvent from entry to
IsActed wire from to (Some old) entry (Some new) = IsMonitored wire from to old entry new
IsActed wire from to old entry new = ⊥

-- one event of a scene, of whose image, where it is told, so many sectors go into a reply:
pub record SceneEvent (told : Option (List ℕ)) (old : Scene) (entry : Entry) (new : Scene)
    (count : ℕ) : Type 0 where
  -- it is one of the drive and its monitor
  pub acted : IsActed old.wire old.drive new.drive old.watched entry new.watched
  -- and one of the network, whose requests are those of the items
  pub network : NetworkEvent old.image told old.wire entry new.wire count
  pub image : new.image ≡ old.image

-- the entries lead a scene from start to now, one event after the other, and so many sectors of the image, where it is
-- told, went into replies
abbrev pub IsSceneRun : Option (List ℕ) → Scene → List Entry → Scene → ℕ → Type 0
IsSceneRun told start [] now count = (now ≡ start) × (count ≡ 0)
IsSceneRun told start (entry ∷ earlier) now count = (before : Scene) × (were more : ℕ)
    × IsSceneRun told start earlier before were
    × SceneEvent told before entry now more × (count ≡ were + more)

-- one event of a world, from one outside to another:
pub record WorldEvent (outside after : Outside) (old : Scene) (entry : Entry)
    (new : Scene) : Type 0 where
  -- it is one of its scene, and so many sectors of the image go into the server's reply
  pub count : ℕ
  pub scene : SceneEvent (outside.told Image) old entry new count
  -- no more of the image is looked at than these
  pub looked : LooksAtMost count outside after

-- an event hands the server a frame, into whose reply sectors of the image go
pub record HandsSectors (one : Event) (scene : Scene) : Type 0 where
  pub frame : List ℕ
  pub reading : Result Aoe FrameFault
  pub handed : handed_to_server one scene.wire ≡ Some frame
  pub reads : IsReading frame reading
  pub some : 0 < sectors_sent scene.image reading
