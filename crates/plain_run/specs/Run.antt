-- A whole run of a drive that has no monitor: the guest's accesses reach the drive itself.
use Rattle.std.specs.Prelude.{true, ◌≡◌, if◌then◌else◌, List, [], ◌∷◌}
use Rattle.ata_taskfile.specs.declared.Step.{Step}
use Rattle.ata_taskfile.specs.declared.Step.TheVariants as step
use Rattle.plain_drive.specs.Plain.{Plain}
use Rattle.plain_drive.specs.Step.{acts}
use Rattle.plain_drive.specs.Physical.{Physical, StandsFor, seen, keeping, physical_step, physical_destaged, physical_cut}
use Rattle.schedule_text.specs.declared.Event.{Event}
use Rattle.schedule_text.specs.declared.Event.TheVariants as event
use Rattle.schedule_text.specs.declared.Item.{Item}
use Rattle.schedule_text.specs.declared.Item.TheVariants as item
use Rattle.plain_run.specs.Entry.{Due, Entry, answer_bytes, items_due}
use Rattle.plain_run.specs.Guest.{after_guest, answer_due}
use Rattle.plain_run.specs.Event.{PlainEvent, is_cut, restarted, zeroed}
use Rattle.schedule_text.specs.Taken.{commands_due}

-- the physical drive after what a guest does in an event, which reaches no sector
abbrev pub reached_by : Event → Physical → Physical
reached_by one p = keeping p.kept (after_guest one (seen p))

-- the physical drive after an event: exactly its accesses, step, destage or cut
abbrev pub physical_event : Event → Physical → Physical
physical_event (event.Drive s) p = physical_step s p
physical_event (event.Destage k) p = physical_destaged k p
physical_event event.Cut p = physical_cut (zeroed p.memory) p
physical_event one p = reached_by one p

-- the plan item of a step that has an effect
abbrev pub step_item : Step → Item
step_item step.Good = item.Go 1
step_item step.Bad = item.Bad

-- the plan items of an event on a drive without a monitor: a step's, where it has an effect (own)
abbrev pub plan_due : Event → Plain → List Item
plan_due (event.Drive s) p = if acts s p then step_item s ∷ [] else []
plan_due one p = []

-- what is due of an event that leads a drive without a monitor from old to new
abbrev pub drive_due : Event → Physical → Physical → Due
drive_due one old new = record {
  answer = answer_due one (seen old);
  plan = plan_due one (seen old);
  commands = commands_due old.file new.file;
}

-- one event of a physical drive without a monitor:
pub record DriveEvent (old : Physical) (entry : Entry) (new : Physical) : Type 0 where
  -- the drive makes exactly its accesses, step, destage or cut
  pub after : new ≡ physical_event entry.event old
  -- its items are, in this order, the drive's answer, the step that has an effect, and the command
  -- that the drive took
  pub items : entry.items ≡ items_due (drive_due entry.event old new)
  -- its bytes are those of the answer, none where there is no answer
  pub bytes : entry.bytes ≡ answer_bytes (answer_due entry.event (seen old))

-- the entries, the newest first, lead a physical drive from start to now, one event after the other
abbrev pub IsDriveRun : Physical → List Entry → Physical → Type 0
IsDriveRun start [] now = now ≡ start
IsDriveRun start (entry ∷ earlier) now = (before : Physical) × IsDriveRun start earlier before
    × DriveEvent before entry now

-- a plain drive, and the physical one that stands for it
pub record Drives : Type 0 where
  pub plain : Plain
  pub physical : Physical

-- the two together
abbrev pub drives : Plain → Physical → Drives
drives p q = record { plain = p; physical = q }

-- one event of both:
pub record DirectEvent (old : Drives) (entry : Entry) (new : Drives) : Type 0 where
  -- it is an event of the plain drive
  pub plain : PlainEvent old.plain entry new.plain
  -- and one of the physical drive
  pub physical : DriveEvent old.physical entry new.physical
  -- after a cut the plain drive goes on with the physical one's durable sectors
  pub cut : is_cut entry.event ≡ true → new.plain ≡ restarted new.physical.kept.durable old.plain

-- the entries, the newest first, lead both from start to now, one event after the other
abbrev pub IsDirectRun : Drives → List Entry → Drives → Type 0
IsDirectRun start [] now = now ≡ start
IsDirectRun start (entry ∷ earlier) now = (before : Drives) × IsDirectRun start earlier before
    × DirectEvent before entry now

-- a plain run beside a physical drive's run with the same entries, to a plain drive for which the
-- physical one stands then
pub record HasPlainRun (start : Plain) (physical : Physical) (entries : List Entry)
    (now : Physical) : Type 0 where
  pub plain : Plain
  pub run : IsDirectRun (drives start physical) entries (drives plain now)
  pub stands : StandsFor now plain
