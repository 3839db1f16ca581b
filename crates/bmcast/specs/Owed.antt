-- The answer that words, files and schedule owe, where the host tells them and nothing fails.
use Rattle.std.specs.Prelude.{ℕ, ◌≡◌, ◌⊎◌, List, IsSome}
use Rattle.std.specs.Option.{IsSomeAnd}
use Rattle.bm_host.specs.declared.Role.TheVariants.{Image, Disk, Schedule}
use Rattle.bm_host.specs.Outside.{Outside, NoCountRose}
use Rattle.run_words.specs.Options.{Choice, Says}
use Rattle.schedule_text.specs.declared.Event.{Event}
use Rattle.bmcast.specs.Chosen.{Chooses}
use Rattle.bmcast.specs.Known.{IsRefused, IsTaken}
use Rattle.bmcast.specs.Lengths.{CanRun, Found, IsUnsuitable, area_in}
use Rattle.bmcast.specs.declared.Status.{Status}
use Rattle.bmcast.specs.declared.Status.TheVariants as status

-- image and disk are told, and the words choose a run for which what is found in them is so
pub record Offers (words : List (List ℕ)) (o : Outside) (P : Choice → Found → Type 0) : Type 0 where
  pub image : IsSome (o.told Image)
  pub disk : IsSome (o.told Disk)
  pub chooses : Chooses words o P

-- the schedule is told, and over an image of so many sectors its events are so
abbrev pub Schedules : Outside → ℕ → (ℕ → List ℕ → List Event → Type 0) → Type 0
Schedules o image P =
    IsSomeAnd (o.told Schedule) (λ text. (events : List Event) × P image text events)

-- a run can stand on the files, and the schedule is so
abbrev pub RunsOver : Outside → (ℕ → List ℕ → List Event → Type 0) → Choice → Found → Type 0
RunsOver o P choice found = CanRun choice found × Schedules o (area_in choice found).image P

-- the answer that is owed: the first refusal of words, files and schedule, or else Done; a fault and want of memory
-- never are (own)
abbrev pub IsOwed : Status → List (List ℕ) → Outside → Type 0
IsOwed status.Usage words o = (choice : Choice) → ¬ Says words choice
IsOwed (status.Unsuitable reason) words o = Offers words o (IsUnsuitable reason)
IsOwed (status.BadLine number kind) words o =
    Offers words o (RunsOver o (λ image text events. IsRefused image text events number kind))
IsOwed status.Done words o = Offers words o (RunsOver o IsTaken)
IsOwed (status.ReadFault role) words o = ⊥
IsOwed (status.WriteFault role) words o = ⊥
IsOwed status.NoMemory words o = ⊥

-- where no count rose the answer is the one that is owed, or want of memory
abbrev pub AnswersWhatIsOwed : Status → List (List ℕ) → Outside → Outside → Type 0
AnswersWhatIsOwed answer words old new = (owed : Status) → IsOwed owed words old
    → NoCountRose old new → (answer ≡ owed) ⊎ (answer ≡ status.NoMemory)
