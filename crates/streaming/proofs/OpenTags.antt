-- What one line more makes of an open tag.
use Rattle.std.proofs.Common.{◌≡◌, ◌<◌, ◌∷◌, ℕ, zero, true, false, if◌then◌else◌, List, inl, inr, ap, arith}
use Rattle.streaming.specs.Lines.{Line}
use Rattle.streaming.specs.Open.{Delivers, IsOpen, and_tick, ticks_since}
use Rattle.streaming.specs.Sources.{is_power_on, one_asks}
use Rattle.streaming.proofs.Sourced.{asks_now, stays_asked}

-- under a line that asks for another tag the ticks are counted on
pub ticks_on : (tag : ℕ) (line : Line) (lines : List Line) → one_asks tag line.items ≡ false
    → ticks_since tag (line ∷ lines) ≡ and_tick line.call (ticks_since tag lines)
ticks_on tag line lines none =
    ap (λ b. if b then zero else and_tick line.call (ticks_since tag lines)) none

-- and under one that asks for it anew
pub ticks_anew : (tag : ℕ) (line : Line) (lines : List Line) → one_asks tag line.items ≡ true
    → ticks_since tag (line ∷ lines) ≡ 0
ticks_anew tag line lines asks =
    ap (λ b. if b then zero else and_tick line.call (ticks_since tag lines)) asks

-- a tag stays open while it is young, no frame that answers it comes, and the power stays on
pub stays_open : (tag : ℕ) (line : Line) (lines : List Line) → one_asks tag line.items ≡ false
    → is_power_on line.call ≡ false → (Delivers tag line.call → ⊥)
    → and_tick line.call (ticks_since tag lines) < 4 → IsOpen tag lines → IsOpen tag (line ∷ lines)
stays_open tag line lines none on silent young was = record {
  asked = stays_asked tag line lines on was.asked;
  unanswered = λ answered. elim answered.1 [ inl now ↦ silent now | inr before ↦ was.unanswered before ];
  young = omega (arith, young, ticks_on tag line lines none);
}

-- and one that is asked for is open
pub opens : (tag : ℕ) (line : Line) (lines : List Line) → one_asks tag line.items ≡ true
    → IsOpen tag (line ∷ lines)
opens tag line lines asks = record {
  asked = asks_now tag line lines asks;
  unanswered = λ answered. let no = answered.0 in cc;
  young = omega (arith, ticks_anew tag line lines asks);
}
