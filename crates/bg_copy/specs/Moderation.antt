-- How far the copy in the background holds back.
use Rattle.std.specs.Prelude.{ℕ, ◌<◌, ◌≤◌}
use Rattle.bg_copy.specs.declared.moderation.TheConstants.{MOST_GAP, MOST_WINDOW, MOST_LIMIT}

-- the ticks that each copy write waits for, the ticks whose commands count, and how many these may be (own)
pub record Moderation : Type 0 where
  pub gap : ℕ
  pub window : ℕ
  pub limit : ℕ

-- this gap, this window and this limit
abbrev pub moderation : ℕ → ℕ → ℕ → Moderation
moderation gap window limit = record { gap = gap; window = window; limit = limit }

-- the ranges of the three (own)
pub record IsInRange (m : Moderation) : Type 0 where
  pub gap : m.gap ≤ MOST_GAP
  pub least : 0 < m.window
  pub most : m.window ≤ MOST_WINDOW
  pub limit : m.limit ≤ MOST_LIMIT
