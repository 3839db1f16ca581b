-- What a guest sees of a run with an image: a plain drive that began with what it finds on the disk, up to the first
-- closing mark. Lists of entries and of lines have the newest first.
use Rattle.std.specs.Prelude.{ℕ, ◌≡◌, true, false, if◌then◌else◌, List, [], ◌∷◌, Option, Some, None, IfSome}
use Rattle.fill_bitmap.specs.Disk.{HasHeader, guest_view, stored_blocks}
use Rattle.plain_drive.specs.Cut.{IsOutcome}
use Rattle.plain_drive.specs.Plain.{Plain, sectors_in}
use Rattle.plain_run.specs.Entry.{Entry}
use Rattle.streaming.specs.Helpful.{one_readies}
use Rattle.streaming.specs.Lines.{Line}
use Rattle.streaming.specs.World.{Scene, SceneEvent}
use Rattle.world.specs.Coupled.{Deployment, IsAsPlain, closes, lines_on, plain_after, plain_found}
use Rattle.world.specs.Reserved.{MarksRightly}

-- the plain drive that the guest sees, and the lines of the monitor's calls so far
pub record Guest : Type 0 where
  pub plain : Plain
  pub lines : List Line

-- the guest of a deployment at power-on: its plain drive has the sectors that it finds on this scene's drive
abbrev pub guest_over : Deployment → Scene → Guest
guest_over deployed scene = record { plain = plain_found deployed scene.drive; lines = [] }

-- the guest after an event in a scene; a closing mark ends what is said of it
abbrev pub guest_after : Scene → Entry → Guest → Option Guest
guest_after scene entry old =
    if closes entry.items then None else Some (record {
      plain = plain_after entry old.plain;
      lines = lines_on scene entry old.plain old.lines;
    })

-- one event as a guest sees it, in a deployment over these sectors of a disk, from one scene to another:
pub record GuestEvent (deployed : Deployment) (disk : List (List ℕ)) (before after : Scene)
    (old : Guest) (entry : Entry) (new : Option Guest) : Type 0 where
  -- a command is marked exactly where the plain drive takes one that names a reserved sector or, for now, that writes
  -- to a block which isn't stored on the disk
  pub marks : MarksRightly deployed.area (stored_blocks deployed.area deployed.id disk) entry
      old.plain
  -- drive and plain drive have the same memory
  pub memory : before.drive.memory ≡ old.plain.memory
  -- without a closing mark the answer and the plan lines are the plain drive's, each sector that it reads comes from
  -- the drive or from the image's server, no command writes meanwhile, and the monitor asks where it may and is ready
  -- in time
  pub plain : closes entry.items ≡ false → IsAsPlain deployed.area old.plain old.lines entry
      (lines_on before entry old.plain old.lines)
  -- and where it tells that it is ready the durable sectors have the run's header
  pub header : closes entry.items ≡ false → one_readies entry.items ≡ true
      → HasHeader deployed.area deployed.id after.drive.kept.durable
  -- a closing mark, and nothing else, ends what is said of the guest
  pub goes : new ≡ guest_after before entry old

-- the same behind a closing mark, where nothing is said any more
abbrev pub GuestGoes : Deployment → List (List ℕ) → Scene → Scene → Option Guest → Entry
    → Option Guest → Type 0
GuestGoes deployed disk before after None entry new = new ≡ None
GuestGoes deployed disk before after (Some old) entry new =
    GuestEvent deployed disk before after old entry new

-- the entries lead scene and guest of a deployment from the start to now, one event after the other
abbrev pub IsGuestRun : Deployment → Scene → List Entry → Scene → Option Guest → Type 0
IsGuestRun deployed start [] now guest = (now ≡ start) × (guest ≡ Some (guest_over deployed start))
IsGuestRun deployed start (entry ∷ earlier) now guest = (before : Scene) × (was : Option Guest)
    × (count : ℕ) × IsGuestRun deployed start earlier before was
    × SceneEvent (Some deployed.image) before entry now count
    × GuestGoes deployed start.drive.kept.durable before now was entry guest

-- a run of a deployment as its guest sees it:
pub record HasGuestRun (deployed : Deployment) (start : Scene) (entries : List Entry)
    (now : Scene) : Type 0 where
  -- event by event, up to the first closing mark, it is one of the plain drive over what the guest finds on the disk
  pub guest : Option Guest
  pub run : IsGuestRun deployed start entries now guest
  -- without one, what a guest finds on the drive's durable sectors is what a power cut may leave of the plain drive
  pub left : IfSome guest (λ g. IsOutcome g.plain.device.cells (guest_view deployed.area
      deployed.id (sectors_in deployed.area.image deployed.image) now.drive.kept.durable))
