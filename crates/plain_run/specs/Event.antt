-- One event of a plain drive.
use Rattle.std.specs.Prelude.{ℕ, Bool, true, false, ◌≡◌, ◌≤◌, List, [], ◌∷◌, length, replicate}
use Rattle.ata_taskfile.specs.declared.Step.TheVariants as step
use Rattle.plain_drive.specs.Plain.{Plain}
use Rattle.plain_drive.specs.Step.{AllAct, acts, bad_step, went}
use Rattle.plain_drive.specs.Cut.{IsOutcome, drive_at_power_on}
use Rattle.schedule_text.specs.declared.Event.{Event}
use Rattle.schedule_text.specs.declared.Event.TheVariants as event
use Rattle.schedule_text.specs.declared.Item.{Item}
use Rattle.schedule_text.specs.declared.Item.TheVariants as item
use Rattle.plain_run.specs.Entry.{Entry, answer_bytes, answer_items, answers_in, plan_in}
use Rattle.plain_run.specs.Guest.{after_guest, answer_due}

-- the events under which the report may say that the plain drive made steps: one of the drive's, and a turn of the
-- monitor, which may serve the guest
abbrev pub may_step : Event → Bool
may_step (event.Drive s) = true
may_step event.Turn = true
may_step one = false

-- a power cut
abbrev pub is_cut : Event → Bool
is_cut event.Cut = true
is_cut one = false

-- an event of the drive itself: a step, a destage or a power cut
abbrev pub is_drives : Event → Bool
is_drives (event.Drive s) = true
is_drives (event.Destage k) = true
is_drives event.Cut = true
is_drives one = false

-- a memory of zeros, as long as this one
abbrev pub zeroed : List ℕ → List ℕ
zeroed memory = replicate (length memory) 0

-- the drive at power-on after a cut that left these sectors: the guest's memory is zeros
abbrev pub restarted : List (List ℕ) → Plain → Plain
restarted outcome p = drive_at_power_on outcome p.device.sectors (zeroed p.memory)

-- an event leads a plain drive from old to new, but for its plan: after a cut it begins with a cut
-- outcome
abbrev pub LeadsTo : Event → Plain → Plain → Type 0
LeadsTo event.Cut old new = (outcome : List (List ℕ)) × IsOutcome old.device.cells outcome
    × (new ≡ restarted outcome old)
LeadsTo one old new = new ≡ after_guest one old

-- what the report says that the plain drive did leads from old to new
abbrev pub FollowsPlan : List Item → Plain → Plain → Type 0
FollowsPlan [] old new = new ≡ old
FollowsPlan (item.Go n ∷ items) old new =
    (1 ≤ n) × AllAct n old × FollowsPlan items (went n old) new
FollowsPlan (item.Bad ∷ items) old new =
    (acts step.Bad old ≡ true) × FollowsPlan items (bad_step old) new
FollowsPlan (other ∷ items) old new = FollowsPlan items old new

-- one event of a plain drive, whatever else the report says of it:
pub record PlainEvent (old : Plain) (entry : Entry) (new : Plain) : Type 0 where
  -- its answer is told once where it has one, and the entry's bytes are those of the answer
  pub answered : answers_in entry.items ≡ answer_items (answer_due entry.event old)
  pub bytes : entry.bytes ≡ answer_bytes (answer_due entry.event old)
  -- the event leads the drive to where its plan begins
  pub between : Plain
  pub reached : LeadsTo entry.event old between
  -- and the drive follows the plan, which stands under a step of the drive or a turn alone
  pub placed : may_step entry.event ≡ false → plan_in entry.items ≡ []
  pub followed : FollowsPlan entry.items between new
