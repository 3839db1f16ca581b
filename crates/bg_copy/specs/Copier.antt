-- What a copier holds, and what it stands for.
use Rattle.std.specs.Prelude.{ℕ, ◌≡◌, ◌+◌, ◌-◌, ◌≤◌, min, List, sum, take, Option, option_map}
use Rattle.bg_copy.specs.Moderation.{Moderation}
use Rattle.bg_copy.specs.Happened.{Happened, ticks_since, commands_in, cursor_of}

-- the ticks of a window, the limit, and the commands counted in each tick, the current one first (own)
pub record Counted : Type 0 where
  pub window : ℕ
  pub limit : ℕ
  pub counts : List ℕ

-- two numbers that a limit doesn't tell apart: they are the same, or both above it
abbrev pub AreAlike : ℕ → ℕ → ℕ → Type 0
AreAlike limit m n = min m (limit + 1) ≡ min n (limit + 1)

-- in the window's newest ticks, however many, as many commands were counted as were taken, as far as the limit tells
pub record Counts (m : Moderation) (counted : Counted) (happened : List Happened) : Type 0 where
  pub window : counted.window ≡ m.window
  pub limit : counted.limit ≡ m.limit
  pub counts : (ticks : ℕ) → ticks ≤ m.window →
      AreAlike m.limit (sum (take ticks counted.counts)) (commands_in ticks happened)

-- the gap, the ticks of it still to pass (None before the ready), the commands counted, and the cursor (own)
pub record Held : Type 0 where
  pub gap : ℕ
  pub wait : Option ℕ
  pub counted : Counted
  pub cursor : ℕ

-- a copier of this moderation, to which this happened since power-on, the newest first (own)
pub record StandsFor (m : Moderation) (copier : Held) (happened : List Happened) : Type 0 where
  pub gap : copier.gap ≡ m.gap
  pub wait : copier.wait ≡ option_map (λ ticks. m.gap - ticks) (ticks_since happened)
  pub counts : Counts m copier.counted happened
  pub cursor : copier.cursor ≡ cursor_of happened
