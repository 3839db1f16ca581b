-- The first line of a schedule that isn't one.
use Rattle.std.specs.Prelude.{ℕ, ◌≡◌, ◌≢◌, ◌<◌, ◌+◌, ◌==◌, if◌then◌else◌, List, [], ◌∷◌, length}
use Rattle.schedule_text.specs.declared.Event.{Event}
use Rattle.schedule_text.specs.declared.Event.TheVariants as event
use Rattle.schedule_text.specs.declared.LineFault.{LineFault}
use Rattle.schedule_text.specs.declared.LineFault.TheVariants as fault
use Rattle.schedule_text.specs.declared.TheConstants.{LINE_BYTES, LAST_LINE}
use Rattle.schedule_text.specs.Line.{Says, IsFormless, IsOutOfRange}
use Rattle.schedule_text.specs.Schedule.{HasRead, MayGoOn, IsEnded}

-- the bytes up to the first line feed (10), or all of them
abbrev pub first_line : List ℕ → List ℕ
first_line [] = []
first_line (byte ∷ rest) = if byte == 10 then [] else byte ∷ first_line rest

-- a line of this number isn't one, for this fault; the last number that a line can have is the
-- end's alone
abbrev pub LineFails : LineFault → ℕ → List ℕ → Type 0
LineFails fault.LongLine number line = LINE_BYTES < length line
LineFails fault.Form number line = IsFormless line
LineFails fault.Number number line = IsOutOfRange line
LineFails fault.TooMany number line =
    (number ≡ LAST_LINE) × ((e : Event) × Says line e × (e ≢ event.End))
LineFails fault.NoEnd number line = ⊥
LineFails fault.Trailing number line = ⊥

-- behind the lines of these events a line is due, and what is left doesn't begin with one
pub record LineIsDue (kind : LineFault) (number : ℕ) (events : List Event)
    (left : List ℕ) : Type 0 where
  pub goes_on : MayGoOn events
  pub some : left ≢ []
  pub fails : LineFails kind number (first_line left)

-- how a schedule fails behind the lines of these events, with these bytes left
abbrev pub FailsWith : LineFault → ℕ → List Event → List ℕ → Type 0
FailsWith fault.LongLine number events left = LineIsDue fault.LongLine number events left
FailsWith fault.Form number events left = LineIsDue fault.Form number events left
FailsWith fault.Number number events left = LineIsDue fault.Number number events left
FailsWith fault.TooMany number events left = LineIsDue fault.TooMany number events left
FailsWith fault.NoEnd number events left = MayGoOn events × (left ≡ [])
FailsWith fault.Trailing number events left = IsEnded events × (left ≢ [])

-- the text's first lines are those of these events, and the line after them, of this number, is the
-- first bad one
pub record FailsAt (text : List ℕ) (events : List Event) (number : ℕ)
    (kind : LineFault) : Type 0 where
  pub left : List ℕ
  pub read : HasRead text left events
  pub next : length events + 1 ≡ number
  pub fails : FailsWith kind number events left
