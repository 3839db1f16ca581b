-- A whole run, and what is promised of it.
use Rattle.std.specs.Prelude.{ℕ, ◌≡◌, ◌<◌, ◌*◌, ◌/◌, false, List, [], length, replicate, slice_index_or}
use Rattle.bm_host.specs.declared.Role.TheVariants.{Image, Disk, Schedule, Report, Out}
use Rattle.ata_taskfile.specs.declared.registers.TheConstants.{SECTOR_BYTES}
use Rattle.bm_host.specs.Outside.{Outside, IfTold}
use Rattle.plain_drive.specs.Plain.{Plain, sectors_in}
use Rattle.plain_drive.specs.Cut.{IsOutcome, drive_at_power_on}
use Rattle.image_server.specs.Serving.{LooksAtMost}
use Rattle.run_words.specs.Options.{Choice}
use Rattle.schedule_text.specs.declared.LineFault.{LineFault}
use Rattle.plain_run.specs.Entry.{Entry, events_of, history_text, report_text}
use Rattle.plain_run.specs.Run.{HasPlainRun}
use Rattle.plain_run.specs.Written.{is_named}
use Rattle.streaming.specs.World.{Scene, IsSceneRun, drive_over, started}
use Rattle.world.specs.Coupled.{Deployment}
use Rattle.bmcast.specs.Chosen.{Chosen}
use Rattle.bmcast.specs.Guest.{HasGuestRun}
use Rattle.bmcast.specs.Known.{IsRefused, IsTaken}
use Rattle.bmcast.specs.Lengths.{HasLength}

-- the sectors of a disk's bytes
abbrev pub sectors_of_disk : List ℕ → List (List ℕ)
sectors_of_disk disk = sectors_in (length disk / SECTOR_BYTES) disk

-- a plain drive at power-on over these sectors
abbrev pub plain_over : ℕ → List (List ℕ) → Plain
plain_over memory sectors =
    drive_at_power_on sectors (length sectors) (replicate memory 0)

-- what the words deploy of an image of so many sectors and these bytes, on a disk of so many sectors
abbrev pub deployment_of : Choice → ℕ → ℕ → List ℕ → Deployment
deployment_of choice image sectors bytes = record {
  area = record { image = image; sectors = sectors; block = choice.sizes.block };
  id = choice.id;
  image = bytes;
}

-- what was run, over image and disk of this outside:
pub record WasRun (choice : Choice) (old : Outside) : Type 0 where
  -- there are the disk's sectors, how many sectors the image has, and a history of the events that were done
  pub sectors : List (List ℕ)
  pub image : ℕ
  pub entries : List Entry
  pub read : IfTold (old.told Disk) (λ disk. sectors ≡ sectors_of_disk disk)
  pub image_length : HasLength Image old (SECTOR_BYTES * image)
  -- at its end there are a drive, a network and, with an image, a monitor, and so many sectors of the image went into
  -- replies, each counted once a reply
  pub end : Scene
  pub count : ℕ
  -- the entries lead there from power-on, event by event. With a monitor each is one of an honest trace: the drive
  -- moves as the event says, then register accesses reach it, its `c` lines are the commands that it took, the `a`
  -- lines are the tags that the client sent, and a stray frame is marked exactly where the client took it
  pub run : IsSceneRun (old.told Image)
      (started choice.sizes.block choice.sizes.memory image sectors) entries end count
  -- without an image there is no monitor, and the report is that of a plain drive that began with the sectors: event
  -- by event the answers and plan lines are its own, the physical drive makes exactly the event's access, step, destage
  -- or cut and takes the commands of the `c` lines, and after a cut the plain drive goes on with the physical one's
  -- durable sectors; the physical drive stands for the plain one at the end
  pub plain : image ≡ 0 → HasPlainRun (plain_over choice.sizes.memory sectors)
      (drive_over choice.sizes.memory sectors) entries end.drive
  -- with an image that is told it is, up to the first closing mark, that of a plain drive that began with what the
  -- guest finds on the disk: the stored blocks' sectors and those behind the image are the disk's, all others the
  -- image's
  pub guest : IfTold (old.told Image) (λ bytes. 0 < image →
      HasGuestRun (deployment_of choice image (length sectors) bytes)
      (started choice.sizes.block choice.sizes.memory image sectors) entries end)

-- the run is done, from the outside before it to that after it:
pub record DoneRun (choice : Choice) (old new : Outside) : Type 0 where
  pub was : WasRun choice old
  -- the schedule was read to its line `end` and the end of input, and these are its events, each of which is known
  pub schedule : IfTold (old.told Schedule)
      (λ text. IsTaken was.image text (events_of was.entries))
  -- the report is the text of the history
  pub report : IfTold (new.told Report) (λ text. text ≡ report_text was.entries)
  -- out has the drive's durable sectors, and without an image these are what a power cut may leave of the plain one
  pub out : IfTold (new.told Out) (λ out. sectors_of_disk out ≡ was.end.drive.kept.durable)
  pub whole : IfTold (new.told Out) (λ out. length out ≡ SECTOR_BYTES * length was.sectors)
  pub outcome : (empty : was.image ≡ 0)
      → IsOutcome (was.plain empty).plain.device.cells was.end.drive.kept.durable
  -- no more of the image was looked at than the sectors that went into replies, and of none nothing
  pub looked : LooksAtMost was.count old new
  -- a sector that no `c` line of a write names is the disk's
  pub unnamed : (s : ℕ) → is_named s was.entries ≡ false
      → slice_index_or was.end.drive.kept.durable s [] ≡ slice_index_or was.sectors s []

-- the run ended at a line that is refused, whose number and kind are those of the schedule's first:
pub record BadLineRun (choice : Choice) (old new : Outside) (number : ℕ)
    (kind : LineFault) : Type 0 where
  pub was : WasRun choice old
  -- the lines before it are those of these events, each of which is known, and it is the first that isn't taken, for
  -- this fault
  pub schedule : IfTold (old.told Schedule)
      (λ text. IsRefused was.image text (events_of was.entries) number kind)
  -- the report is the text of the history, without an end, and out is as it was opened
  pub report : IfTold (new.told Report) (λ text. text ≡ history_text was.entries)
  pub out : IfTold (new.told Out) (λ bytes. bytes ≡ [])
  -- no more of the image was looked at than the sectors that went into replies, and of none nothing
  pub looked : LooksAtMost was.count old new

-- the run that the words choose is done
abbrev pub RunIsDone : List (List ℕ) → Outside → Outside → Type 0
RunIsDone words old new = Chosen words (λ choice. DoneRun choice old new)

-- the run that the words choose ended at a line that is refused
abbrev pub RunIsBad : List (List ℕ) → Outside → Outside → ℕ → LineFault → Type 0
RunIsBad words old new number kind =
    Chosen words (λ choice. BadLineRun choice old new number kind)
