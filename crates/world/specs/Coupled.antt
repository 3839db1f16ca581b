-- When a world stands for a plain drive, and what an event makes of that.
use Rattle.std.specs.Prelude.{ℕ, ◌≡◌, ◌<◌, Bool, true, false, List, [], ◌∷◌, Option, Some, None}
use Rattle.bm_host.specs.Outside.{IfTold}
use Rattle.ata_taskfile.specs.declared.Stepped.{Stepped}
use Rattle.ata_taskfile.specs.declared.Stepped.TheVariants.{Nothing}
use Rattle.fill_bitmap.specs.declared.area.Area.{Area}
use Rattle.fill_bitmap.specs.Area.{bitmap_sectors_of}
use Rattle.fill_bitmap.specs.Disk.{HasHeader, guest_view, stored_blocks}
use Rattle.plain_drive.specs.Cut.{drive_at_power_on}
use Rattle.plain_drive.specs.Physical.{Physical, seen}
use Rattle.plain_drive.specs.Plain.{Plain, sectors_in}
use Rattle.plain_drive.specs.Step.{acts, stepped_if}
use Rattle.schedule_text.specs.declared.Event.{Event}
use Rattle.schedule_text.specs.declared.Event.TheVariants as event
use Rattle.schedule_text.specs.declared.Item.{Item}
use Rattle.schedule_text.specs.declared.Item.TheVariants as item
use Rattle.plain_run.specs.Entry.{Entry}
use Rattle.plain_run.specs.Event.{PlainEvent}
use Rattle.plain_run.specs.Guest.{after_guest}
use Rattle.plain_run.specs.Plan.{planned}
use Rattle.streaming.specs.Lines.{Line, lines_after}
use Rattle.streaming.specs.Helpful.{IsReadyInTime, one_readies}
use Rattle.streaming.specs.Lists.{HoldsReplies}
use Rattle.streaming.specs.Asks.{AsksSeldom, IsAskedAgain}
use Rattle.streaming.specs.Sources.{HasSourcesAlong, SparesReads, one_asks}
use Rattle.streaming.specs.World.{Scene}
use Rattle.monitor_state.specs.Overlaid.{Known}
use Rattle.mediator.specs.declared.mediator.Mediator.{Mediator}
use Rattle.mediator.specs.Couples.{Couples}
use Rattle.mediator.specs.Mediator.{FitsDrive, parts_of}
use Rattle.world.specs.Deployed.{watched_of}
use Rattle.world.specs.Reserved.{MarksRightly}
use Rattle.world.specs.WorldState.{WorldState}

-- what a run deploys: an area of the drive, the run's number, and the bytes of the server's image
pub record Deployment : Type 0 where
  pub area : Area
  pub id : ℕ
  pub image : List ℕ

-- a scene with this monitor stands for a plain drive after these calls
pub record StandsFor (deployed : Deployment) (k : Known) (m : Mediator) (scene : Scene) (q : Plain)
    (lines : List Line) : Type 0 where
  pub coupled : Couples k m (seen scene.drive).device scene.drive.memory q lines
  -- the monitor is of this deployment, fits the drive, and is the one that a report shows
  pub area : (parts_of m).area ≡ deployed.area
  pub id : (parts_of m).id ≡ deployed.id
  pub fits : FitsDrive m (seen scene.drive).device
  pub watched : scene.watched ≡ Some (watched_of m)
  -- it deploys the sectors of the server's image
  pub sectors : deployed.area.image ≡ scene.image
  pub image_is : k.image ≡ sectors_in scene.image deployed.image
  -- and each reply under way is the server's
  pub replies : HoldsReplies scene.image deployed.image scene.wire

-- a scene does so with its monitor; without one it does not
abbrev pub StandsIn : Deployment → Known → Option Mediator → Scene → Plain → List Line → Type 0
StandsIn deployed k None scene q lines = ⊥
StandsIn deployed k (Some m) scene q lines = StandsFor deployed k m scene q lines

-- a world does
abbrev pub Stands : Deployment → Known → WorldState → Plain → List Line → Type 0
Stands deployed k w q lines = StandsIn deployed k w.mediator w.scene q lines

-- what is known from the start on of a run over a disk of these sectors: the data of its stored blocks is durable
abbrev pub known_of : Deployment → List (List ℕ) → Known
known_of deployed disk = record {
  image = sectors_in deployed.area.image deployed.image;
  disk = disk;
  durable = stored_blocks deployed.area deployed.id disk;
}

-- the plain drive at power-on whose sectors are those that a guest finds on a drive's durable ones
abbrev pub plain_found : Deployment → Physical → Plain
plain_found deployed p =
    let image = sectors_in deployed.area.image deployed.image in
    drive_at_power_on (guest_view deployed.area deployed.id image p.kept.durable)
    deployed.area.sectors p.memory

-- a world in which nothing has happened yet stands for it
abbrev pub BeginsAsPlain : Deployment → WorldState → Type 0
BeginsAsPlain deployed w =
    let p = w.scene.drive in
    Stands deployed (known_of deployed p.kept.durable) w (plain_found deployed p) []

-- where the image is told and isn't empty, a world that begins stands for it
pub record BeginsOver (told : Option (List ℕ)) (area : Area) (id : ℕ) (w : WorldState) : Type 0 where
  pub stands : IfTold told (λ bytes. 0 < area.image
      → BeginsAsPlain (record { area = area; id = id; image = bytes }) w)

-- one of these items is a closing mark: of a command that the monitor refuses, or of a stray frame that it took
abbrev pub closes : List Item → Bool
closes [] = false
closes (item.Reserved ∷ items) = true
closes (item.Forged ∷ items) = true
closes (other ∷ items) = closes items

-- the plain drive after an event: after what the guest does in it, and the steps that its items tell of
abbrev pub plain_after : Entry → Plain → Plain
plain_after entry q = planned entry.items (after_guest entry.event q)

-- whether the step that a drive makes in an event has an effect
abbrev pub effect_in : Event → Physical → Stepped
effect_in (event.Drive s) p = stepped_if (acts s (seen p))
effect_in other p = Nothing

-- where an event may ask for a tag after these calls: in a turn, and in a tick where it is asked for again (own)
abbrev pub MayAskIn : Event → ℕ → List Line → Type 0
MayAskIn event.Turn tag lines = Unit {0}
MayAskIn event.Tick tag lines = IsAskedAgain tag lines
MayAskIn other tag lines = ⊥

-- an event with its items and its answer is one of this plain drive, over an area, after these calls and with its own
-- behind them:
pub record IsAsPlain (area : Area) (q : Plain) (lines : List Line) (entry : Entry)
    (later : List Line) : Type 0 where
  -- the answer is the plain drive's, which makes the steps that are told
  pub plain : PlainEvent q entry (plain_after entry q)
  -- no sector that one loads or moves for a read of the guest's has a third source
  pub sources : HasSourcesAlong area.image entry.items (after_guest entry.event q) lines
  -- and no command that writes is told while such a read is in hand
  pub spares : SparesReads entry.items (after_guest entry.event q)
  -- each tag is asked for where it may be
  pub asks : (tag : ℕ) → one_asks tag entry.items ≡ true → MayAskIn entry.event tag lines
  -- and turns ask for none too often
  pub seldom : AsksSeldom later
  -- the monitor is ready in time
  pub ready : IsReadyInTime area.block (bitmap_sectors_of area) later

-- the lines after an event in a scene, beside this plain drive and behind these
abbrev pub lines_on : Scene → Entry → Plain → List Line → List Line
lines_on scene entry q lines = lines_after entry.event scene.wire
    (effect_in entry.event scene.drive) q entry.items lines

-- what an event of a world makes of a plain drive for which that stands in a deployment, after these calls:
pub record KeepsFor (deployed : Deployment) (k : Known) (old : WorldState) (entry : Entry)
    (new : WorldState) (q : Plain) (lines : List Line) : Type 0 where
  -- a command of the guest's is marked exactly where the monitor refuses it
  pub marks : MarksRightly deployed.area k.durable entry q
  -- the drive moves sectors to and from the memory that the plain drive has
  pub memory : old.scene.drive.memory ≡ q.memory
  -- without a closing mark the event is one of that drive
  pub plain : closes entry.items ≡ false
      → IsAsPlain deployed.area q lines entry (lines_on old.scene entry q lines)
  -- for which the world stands afterwards
  pub stands : closes entry.items ≡ false
      → Stands deployed k new (plain_after entry q) (lines_on old.scene entry q lines)
  -- and where the monitor tells that it is ready the durable sectors have the run's header
  pub header : closes entry.items ≡ false → one_readies entry.items ≡ true
      → HasHeader deployed.area deployed.id new.scene.drive.kept.durable

-- so it is for each plain drive for which the world stands in a deployment of this image
abbrev pub KeepsPlain : List ℕ → WorldState → Entry → WorldState → Type 0
KeepsPlain image old entry new = (deployed : Deployment) → deployed.image ≡ image → (k : Known)
    (q : Plain) (lines : List Line) → Stands deployed k old q lines
    → KeepsFor deployed k old entry new q lines
