-- Inner: the events that were read and done so far, and a schedule that was played.
use Rattle.std.specs.Prelude.{ℕ, ◌≡◌, ◌≢◌, ◌+◌, ◌⊎◌, List, length, None}
use Rattle.bm_host.specs.declared.Role.TheVariants.{Image, Schedule, Report}
use Rattle.bm_host.specs.Outside.{Outside, IfTold}
use Rattle.schedule_text.specs.declared.Event.{Event}
use Rattle.schedule_text.specs.declared.Event.TheVariants as event
use Rattle.schedule_text.specs.declared.TheConstants.{LAST_LINE}
use Rattle.schedule_text.specs.declared.LineFault.{LineFault}
use Rattle.schedule_text.specs.Schedule.{HasNoEnd, HasRead, IsEnded, IsSchedule}
use Rattle.plain_run.specs.Entry.{Entry, events_of, history_text, report_text}
use Rattle.image_server.specs.Serving.{HasImage, LooksAtMost}
use Rattle.streaming.specs.World.{Scene, IsSceneRun}
use Rattle.world.specs.WorldState.{WorldState}
use Rattle.bmcast.specs.GuestRuns.{GuestRuns}
use Rattle.bmcast.specs.Known.{IsRefused, IsTaken, KnowsAll}
use Rattle.bmcast.specs.declared.play.Progress.{Progress}
use Rattle.bmcast.specs.declared.play.Progress.TheVariants as progress
use Rattle.bmcast.specs.declared.streams.Streams.{Streams}
use Rattle.bmcast.specs.declared.streams.Fetched.TheVariants as fetched
use Rattle.bmcast.specs.Streams.{unread, Fetches, Said}

-- a world whose image has so many sectors, all of which are there; without an image it has no monitor
pub record IsOver (sectors : ℕ) (o : Outside) (scene : Scene) : Type 0 where
  pub image : scene.image ≡ sectors
  pub there : HasImage sectors o
  pub alone : sectors ≡ 0 → scene.watched ≡ None

-- where a run began: what the world was then, and its outside
pub record Begun : Type 0 where
  pub world : WorldState
  pub outside : Outside

-- these entries were done and reported, their events are known, and they led from the start to now, world and guests;
-- so many sectors of the image went into replies, and no more of it was looked at
pub record IsPlayed (start : Begun) (s : Streams) (o : Outside) (now : WorldState)
    (entries : List Entry) : Type 0 where
  pub count : ℕ
  pub run : IsSceneRun (o.told Image) start.world.scene entries now.scene count
  pub guests : GuestRuns (o.told Image) start.world entries now
  pub known : KnowsAll start.world.scene.image (events_of entries)
  pub looked : LooksAtMost count start.outside o
  pub said : Said s o (history_text entries)

-- the events of the lines before this number were read, done and reported; `end` isn't among them
pub record HasPlayed (start : Begun) (s : Streams) (o : Outside) (now : WorldState)
    (number : ℕ) : Type 0 where
  pub entries : List Entry
  pub played : IsPlayed start s o now entries
  pub unended : HasNoEnd (events_of entries)
  pub read : IfTold (o.told Schedule) (λ text. HasRead text (unread s o text) (events_of entries))
  pub next : length entries + 1 ≡ number

-- this line stood behind those of the events, and this is left behind it
abbrev pub IsNextLine : List ℕ → List ℕ → List Event → List ℕ → Type 0
IsNextLine text left events line = (old : List ℕ) × HasRead text old events
    × (Fetches fetched.Line line old left ⊎ Fetches fetched.LastLine line old left)

-- the events of the lines before this number were read and done, and its line was taken; `end` isn't among them
pub record HasTaken (start : Begun) (s : Streams) (o : Outside) (now : WorldState) (line : List ℕ)
    (number : ℕ) : Type 0 where
  pub entries : List Entry
  pub played : IsPlayed start s o now entries
  pub unended : HasNoEnd (events_of entries)
  pub taken : IfTold (o.told Schedule)
      (λ text. IsNextLine text (unread s o text) (events_of entries) line)
  pub next : length entries + 1 ≡ number

-- a line of this number may say this event, and then the schedule goes on, or this is its `end`
abbrev pub Leads : Progress → Event → ℕ → Type 0
Leads progress.More one number = (one ≢ event.End) × (number ≢ LAST_LINE)
Leads progress.Ended one number = one ≡ event.End

-- the line `end`, which has this number, was read, done and reported
pub record HasDoneEnd (start : Begun) (s : Streams) (o : Outside) (now : WorldState)
    (number : ℕ) : Type 0 where
  pub entries : List Entry
  pub played : IsPlayed start s o now entries
  pub read : IfTold (o.told Schedule) (λ text. HasRead text (unread s o text) (events_of entries))
  pub ended : IsEnded (events_of entries)
  pub length : length entries ≡ number

-- the line of this number was done: the next one is due, or it was `end`
abbrev pub HasDone : Progress → Begun → Streams → Outside → WorldState → ℕ → Type 0
HasDone progress.More start s o now number = HasPlayed start s o now (number + 1)
HasDone progress.Ended start s o now number = HasDoneEnd start s o now number

-- a whole schedule was read and done, and `end` is its line of this number
pub record HasEnded (start : Begun) (s : Streams) (o : Outside) (now : WorldState)
    (number : ℕ) : Type 0 where
  pub entries : List Entry
  pub played : IsPlayed start s o now entries
  pub schedule : IfTold (o.told Schedule) (λ text. IsSchedule text (events_of entries))
  pub length : length entries ≡ number

-- the events before the first line that is refused were read, done and reported
pub record HasFailed (start : Begun) (s : Streams) (o : Outside) (now : WorldState) (number : ℕ)
    (kind : LineFault) : Type 0 where
  pub entries : List Entry
  pub played : IsPlayed start s o now entries
  pub fails : IfTold (o.told Schedule)
      (λ text. IsRefused start.world.scene.image text (events_of entries) number kind)

-- after a line of this number the schedule goes on, or it has ended
abbrev pub Progresses : Progress → Begun → Streams → Outside → WorldState → ℕ → Type 0
Progresses progress.More start s o now number = HasPlayed start s o now (number + 1)
Progresses progress.Ended start s o now number = HasEnded start s o now number

-- the schedule was played to its end, from one state of the world to another, and the report is its text
pub record IsReported (old new : Outside) (start now : WorldState) : Type 0 where
  pub entries : List Entry
  pub count : ℕ
  pub run : IsSceneRun (old.told Image) start.scene entries now.scene count
  pub guests : GuestRuns (old.told Image) start entries now
  pub looked : LooksAtMost count old new
  pub schedule : IfTold (old.told Schedule) (λ text. IsTaken start.scene.image text (events_of entries))
  pub report : IfTold (new.told Report) (λ text. text ≡ report_text entries)

-- the schedule was played up to its first line that is refused, and the report is the text of the events before it
pub record IsStopped (old new : Outside) (start now : WorldState) (number : ℕ)
    (kind : LineFault) : Type 0 where
  pub entries : List Entry
  pub count : ℕ
  pub run : IsSceneRun (old.told Image) start.scene entries now.scene count
  pub guests : GuestRuns (old.told Image) start entries now
  pub looked : LooksAtMost count old new
  pub schedule : IfTold (old.told Schedule)
      (λ text. IsRefused start.scene.image text (events_of entries) number kind)
  pub report : IfTold (new.told Report) (λ text. text ≡ history_text entries)
