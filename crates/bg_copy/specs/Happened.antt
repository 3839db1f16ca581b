-- What happened since power-on, the newest first, and whether copying is allowed after it.
use Rattle.std.specs.Prelude.{ℕ, zero, suc, ◌+◌, ◌≤◌, List, [], ◌∷◌, Option, Some, None, option_map}
use Rattle.std.specs.Option.{IsSomeAnd}
use Rattle.bg_copy.specs.Moderation.{Moderation}

-- a tick, a command of the guest's that was taken, a copy write of a block that began, the ready (own)
pub data Happened : Type 0 where
  Ticked : Happened
  Commanded : Happened
  Wrote : ℕ → Happened
  Ready : Happened

-- the ticks since the ready or, if later, since the last copy write began; None before the ready (own)
abbrev pub ticks_since : List Happened → Option ℕ
ticks_since [] = None
ticks_since (Ticked ∷ happened) = option_map (λ ticks. ticks + 1) (ticks_since happened)
ticks_since (Commanded ∷ happened) = ticks_since happened
ticks_since (Wrote b ∷ happened) = option_map (λ ticks. 0) (ticks_since happened)
ticks_since (Ready ∷ happened) = Some 0

-- how many ticks there are among what happened (own)
abbrev pub ticks_in : List Happened → ℕ
ticks_in [] = 0
ticks_in (Ticked ∷ happened) = ticks_in happened + 1
ticks_in (Commanded ∷ happened) = ticks_in happened
ticks_in (Wrote b ∷ happened) = ticks_in happened
ticks_in (Ready ∷ happened) = ticks_in happened

-- the commands that were taken in so many ticks, the current one and those before it (own)
abbrev pub commands_in : ℕ → List Happened → ℕ
commands_in zero happened = 0
commands_in (suc ticks) [] = 0
commands_in (suc ticks) (Ticked ∷ happened) = commands_in ticks happened
commands_in (suc ticks) (Commanded ∷ happened) = commands_in (suc ticks) happened + 1
commands_in (suc ticks) (Wrote b ∷ happened) = commands_in (suc ticks) happened
commands_in (suc ticks) (Ready ∷ happened) = commands_in (suc ticks) happened

-- the block from which the next to be copied is looked for: 0, or the one after the last that was written (own)
abbrev pub cursor_of : List Happened → ℕ
cursor_of [] = 0
cursor_of (Ticked ∷ happened) = cursor_of happened
cursor_of (Commanded ∷ happened) = cursor_of happened
cursor_of (Wrote b ∷ happened) = b + 1
cursor_of (Ready ∷ happened) = cursor_of happened

-- a copy write may begin: `gap` ticks passed, and `window` ticks had at most `limit` commands (own)
pub record IsAllowed (m : Moderation) (happened : List Happened) : Type 0 where
  pub waited : IsSomeAnd (ticks_since happened) (λ ticks. m.gap ≤ ticks)
  pub quiet : commands_in m.window happened ≤ m.limit
