-- A whole schedule: the lines of its events. Lists of events have the newest first.
use Rattle.std.specs.Prelude.{ℕ, ◌≡◌, ◌≢◌, ◌<◌, ◌++◌, ◌⊎◌, List, [], ◌∷◌, length}
use Rattle.std.specs.List.{AllByRecursion}
use Rattle.schedule_text.specs.declared.Event.{Event}
use Rattle.schedule_text.specs.declared.Event.TheVariants as event
use Rattle.schedule_text.specs.declared.TheConstants.{LAST_LINE}
use Rattle.schedule_text.specs.Line.{Says}

-- the bytes have no line feed (10)
abbrev pub IsOneLine : List ℕ → Type 0
IsOneLine bytes = AllByRecursion (λ byte. byte ≢ 10) bytes

-- the text is the lines of these events, each ended by a line feed
abbrev pub HasLines : List ℕ → List Event → Type 0
HasLines text [] = text ≡ []
HasLines text (one ∷ earlier) = (before line : List ℕ) × HasLines before earlier × IsOneLine line
    × Says line one × (text ≡ before ++ line ++ 10 ∷ [])

-- the text has bytes, and the last of them is no line feed (10)
abbrev pub IsCutOff : List ℕ → Type 0
IsCutOff text = (front : List ℕ) × (last : ℕ) × (last ≢ 10) × (text ≡ front ++ last ∷ [])

-- the text is the lines of these events and then what is left; nothing is behind a last line that
-- lacks its line feed
abbrev pub HasRead : List ℕ → List ℕ → List Event → Type 0
HasRead text left events = (before : List ℕ) × HasLines before events
    × ((text ≡ before ++ left) ⊎ ((left ≡ []) × (before ≡ text ++ 10 ∷ []) × IsCutOff text))

-- the line `end` isn't among these events
abbrev pub HasNoEnd : List Event → Type 0
HasNoEnd events = AllByRecursion (λ one. one ≢ event.End) events

-- a line may follow the lines of these events: `end` isn't among them, and that line has a number
abbrev pub MayGoOn : List Event → Type 0
MayGoOn events = HasNoEnd events × (length events < LAST_LINE)

-- the newest of these events is their only `end`, and its line has a number
abbrev pub IsEnded : List Event → Type 0
IsEnded [] = ⊥
IsEnded (last ∷ earlier) = (last ≡ event.End) × MayGoOn earlier

-- the text is a whole schedule: the lines of these events, of which its one `end` is the last, and
-- nothing else
abbrev pub IsSchedule : List ℕ → List Event → Type 0
IsSchedule text events = IsEnded events × HasRead text [] events
