-- The schedules that a run takes. For now a run with an image doesn't know each event, and refuses the line of one that
-- isn't built yet as a line without a form (own).
use Rattle.std.specs.Prelude.{ℕ, zero, suc, ◌≡◌, ◌+◌, ◌⊎◌, Bool, true, false, List, ◌∷◌, length}
use Rattle.std.specs.List.{AllByRecursion}
use Rattle.aoe_net.specs.declared.way.Way.TheVariants.{ToServer}
use Rattle.schedule_text.specs.declared.Event.{Event}
use Rattle.schedule_text.specs.declared.Event.TheVariants as event
use Rattle.schedule_text.specs.declared.LineFault.{LineFault}
use Rattle.schedule_text.specs.declared.LineFault.TheVariants as fault
use Rattle.schedule_text.specs.Schedule.{HasRead, IsSchedule, MayGoOn}
use Rattle.schedule_text.specs.BadLine.{FailsAt}
use Rattle.streaming.specs.Built.{is_built}

-- an event that a run with an image of so many sectors knows; without an image it knows each
abbrev pub knows : ℕ → Event → Bool
knows zero one = true
knows (suc n) one = is_built one

-- an event that hands the server a frame, for whose reply the image may be looked at
abbrev pub reaches_server : Event → Bool
reaches_server (event.Deliver ToServer k keep) = true
reaches_server (event.Stray ToServer frame) = true
reaches_server other = false

-- it knows all of these events
abbrev pub KnowsAll : ℕ → List Event → Type 0
KnowsAll image events = AllByRecursion (λ one. knows image one ≡ true) events

-- the text is a whole schedule that such a run takes: it knows all its events
abbrev pub IsTaken : ℕ → List ℕ → List Event → Type 0
IsTaken image text events = IsSchedule text events × KnowsAll image events

-- behind the lines of these events stands, with this number, that of an event that isn't known; the last number that a
-- line can have is the end's alone, whatever the line says
pub record IsUnknown (image : ℕ) (text : List ℕ) (events : List Event) (number : ℕ) : Type 0 where
  pub one : Event
  pub left : List ℕ
  pub read : HasRead text left (one ∷ events)
  pub goes_on : MayGoOn (one ∷ events)
  pub unknown : knows image one ≡ false
  pub next : length events + 1 ≡ number

-- the text's first lines are those of these events, which are known, and the line after them, of this number, is the
-- first that isn't taken: it is a bad one, or that of an event that isn't known
abbrev pub IsRefused : ℕ → List ℕ → List Event → ℕ → LineFault → Type 0
IsRefused image text events number kind = KnowsAll image events
    × (FailsAt text events number kind ⊎ ((kind ≡ fault.Form) × IsUnknown image text events number))
