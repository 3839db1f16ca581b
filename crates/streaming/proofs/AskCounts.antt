-- How often tags are asked for under a call.
use Rattle.std.proofs.Common.{◌≡◌, ◌≤◌, ◌<◌, ◌⊎◌, ◌∷◌, ◌++◌, ℕ, zero, suc, ◌+◌, Bool, true, false, if◌then◌else◌, List, Option, Some, None, inl, inr, ap, ◌∙◌, refl, arith}
use Rattle.std.specs.Prelude.{◌==◌}
use Rattle.std.proofs.lemmas.Bool.{eq-eqb}
use Rattle.std.specs.List.{range_with_len}
use Rattle.schedule_text.specs.declared.Item.{Item}
use Rattle.schedule_text.specs.declared.Item.TheVariants.{Answer, Go, Bad as BadStep, Command, Asked, Ready, Left, Reserved, Forged}
use Rattle.streaming.specs.Asks.{asked_in_turns, asks_for, asks_in_turn, counts_anew}
use Rattle.streaming.specs.Lines.{Line}
use Rattle.streaming.specs.Monitor.{asked_items, item_of}
use Rattle.streaming.specs.Sources.{one_asks}
use Rattle.streaming.specs.Told.{MayTell}

-- from a call on from which requests are counted anew none is counted
pub counted_anew : (tag : ℕ) (line : Line) (lines : List Line) → counts_anew line.call line.plain ≡ true
    → asked_in_turns tag (line ∷ lines) ≡ 0
counted_anew tag line lines anew =
    ap (λ b. if b then zero else asks_in_turn tag line.call line.items + asked_in_turns tag lines) anew

-- and under another one those of a turn are
pub counted_on : (tag : ℕ) (line : Line) (lines : List Line) → counts_anew line.call line.plain ≡ false
    → asked_in_turns tag (line ∷ lines) ≡ asks_in_turn tag line.call line.items + asked_in_turns tag lines
counted_on tag line lines none =
    ap (λ b. if b then zero else asks_in_turn tag line.call line.items + asked_in_turns tag lines) none

-- what is told beside the requests asks for no tag
pub told_beside : (tag : ℕ) (told : Option Item) (tags : List ℕ) → MayTell told
    → asks_for tag (item_of told ++ asked_items tags) ≡ asks_for tag (asked_items tags)
told_beside tag None tags may = refl
told_beside tag (Some Answer) tags may = refl
told_beside tag (Some (Go n)) tags may = refl
told_beside tag (Some BadStep) tags may = refl
told_beside tag (Some (Command byte first count)) tags may = refl
told_beside tag (Some (Asked other)) tags may = absurd may
told_beside tag (Some Ready) tags may = refl
told_beside tag (Some Left) tags may = refl
told_beside tag (Some Reserved) tags may = refl
told_beside tag (Some Forged) tags may = refl

pub told_beside_one : (tag : ℕ) (told : Option Item) (tags : List ℕ) → MayTell told
    → one_asks tag (item_of told ++ asked_items tags) ≡ one_asks tag (asked_items tags)
told_beside_one tag None tags may = refl
told_beside_one tag (Some Answer) tags may = refl
told_beside_one tag (Some (Go n)) tags may = refl
told_beside_one tag (Some BadStep) tags may = refl
told_beside_one tag (Some (Command byte first count)) tags may = refl
told_beside_one tag (Some (Asked other)) tags may = absurd may
told_beside_one tag (Some Ready) tags may = refl
told_beside_one tag (Some Left) tags may = refl
told_beside_one tag (Some Reserved) tags may = refl
told_beside_one tag (Some Forged) tags may = refl

other_number : (n m : ℕ) → (n ≡ m → ⊥) → (n == m) ≡ false
other_number n m differs = by (n == m) refl
  where
    by : (b : Bool) → (n == m) ≡ b → (n == m) ≡ false
    by true is = absurd (grind (arith, is, differs))
    by false is = is

ask_other : (tag one : ℕ) (items : List Item) → (one ≡ tag → ⊥) → asks_for tag (Asked one ∷ items) ≡ asks_for tag items
ask_other tag one items differs =
    ap (λ b. if b then suc (asks_for tag items) else asks_for tag items) (other_number one tag differs)

ask_same : (tag one : ℕ) (items : List Item) → one ≡ tag
    → asks_for tag (Asked one ∷ items) ≡ suc (asks_for tag items)
ask_same tag one items same =
    ap (λ b. if b then suc (asks_for tag items) else asks_for tag items) (eq-eqb one tag same)

-- tags in a row ask for none outside of them
pub row_beyond : (first count tag : ℕ) → (tag < first) ⊎ (first + count ≤ tag)
    → asks_for tag (asked_items (range_with_len first count)) ≡ 0
row_beyond first zero tag beyond = refl
row_beyond first (suc count) tag beyond =
    ask_other tag first (asked_items (range_with_len (first + 1) count)) (λ same. omega (arith, same, beyond))
    ∙ row_beyond (first + 1) count tag (further beyond)
  where
    further : (tag < first) ⊎ (first + suc count ≤ tag) → (tag < first + 1) ⊎ (first + 1 + count ≤ tag)
    further (inl below) = inl (omega (arith, below))
    further (inr above) = inr (omega (arith, above))

-- and for each of them once
pub row_once : (first count i : ℕ) → i < count
    → asks_for (first + i) (asked_items (range_with_len first count)) ≡ 1
row_once first zero i below = absurd (omega (arith, below))
row_once first (suc count) zero below =
    ask_same (first + 0) first (asked_items (range_with_len (first + 1) count)) (omega arith)
    ∙ ap suc (row_beyond (first + 1) count (first + 0) (inl (omega arith)))
row_once first (suc count) (suc i) below =
    let next : first + suc i ≡ first + 1 + i = omega arith in
    ask_other (first + suc i) first (asked_items (range_with_len (first + 1) count)) (λ same. omega (arith, same))
    ∙ ap (λ tag. asks_for tag (asked_items (range_with_len (first + 1) count))) next
    ∙ row_once (first + 1) count i (omega (arith, below))
