-- How many blocks a set has.
use Rattle.std.proofs.Common.{◌≡◌, ◌↔◌, ℕ, zero, suc, ◌==◌, ◌+◌, ◌<◌, ◌≤◌, IsTrue, Bool, true, false, List, [], ◌∷◌, length, replicate, slice_set, arith, refl, ap, sym, ◌∙◌}
use Rattle.std.proofs.lemmas.Bool.{eqb-true, eq-eqb}
use Rattle.std.proofs.lemmas.List.{length-set}
use Rattle.fill_bitmap.specs.BlockSet.{has, held_in, IsWhole, IsWithin}

-- a set has no more blocks than places
pub held_le : (set : List Bool) → held_in set ≤ length set
held_le [] = omega arith
held_le (true ∷ set) = let rest = held_le set in omega arith
held_le (false ∷ set) = let rest = held_le set in omega arith

-- a set of none has none
pub held_none : (n : ℕ) → held_in (replicate n false) ≡ 0
held_none zero = refl
held_none (suc n) = held_none n

-- a block that a set has already is counted no second time
pub held_again : (set : List Bool) (b : ℕ) → has set b ≡ true → held_in (slice_set set b true) ≡ held_in set
held_again [] b held = refl
held_again (true ∷ set) zero held = refl
held_again (false ∷ set) zero held = absurd (cc)
held_again (true ∷ set) (suc b) held = ap (λ n. 1 + n) (held_again set b held)
held_again (false ∷ set) (suc b) held = held_again set b held

-- a block that is put into a set which lacks it is one more
pub held_more : (set : List Bool) (b : ℕ) → b < length set → has set b ≡ false
    → held_in (slice_set set b true) ≡ held_in set + 1
held_more [] b inside lacks = absurd (omega arith)
held_more (true ∷ set) zero inside lacks = absurd (cc)
held_more (false ∷ set) zero inside lacks = omega arith
held_more (true ∷ set) (suc b) inside lacks = let rest = held_more set b (omega arith) lacks in omega arith
held_more (false ∷ set) (suc b) inside lacks = held_more set b (omega arith) lacks

-- where a set lacks one of its places, it has fewer blocks than places
pub held_room : (set : List Bool) (b : ℕ) → b < length set → has set b ≡ false → held_in set < length set
held_room set b inside lacks =
    omega (arith, held_more set b inside lacks, held_le (slice_set set b true), length-set set b true)

each_held : (set : List Bool) → held_in set ≡ length set → IsWhole set
each_held [] all b inside = absurd (omega arith)
each_held (true ∷ set) all zero inside = refl
each_held (true ∷ set) all (suc b) inside = each_held set (omega arith) b (omega arith)
each_held (false ∷ set) all b inside = let most = held_le set in absurd (omega arith)

all_held : (set : List Bool) → IsWhole set → held_in set ≡ length set
all_held [] whole = refl
all_held (true ∷ set) whole = let rest = all_held set (λ b inside. whole (suc b) (omega arith)) in omega arith
all_held (false ∷ set) whole = let first = whole 0 (omega arith) in absurd (cc)

-- a set has every block exactly where it has as many as places
pub whole_by_count : (set : List Bool) (held places : ℕ) → held ≡ held_in set → places ≡ length set
    → IsTrue (held == places) ↔ IsWhole set
whole_by_count set held places counted long = (
  (λ test. each_held set (sym counted ∙ eqb-true held places test ∙ long)),
  (λ whole. eq-eqb held places (counted ∙ all_held set whole ∙ sym long)),
)

-- a set within another has no more blocks
fewer : (inner outer : List Bool) → length inner ≡ length outer → IsWithin inner outer
    → held_in inner ≤ held_in outer
fewer [] outer same within = omega arith
fewer (x ∷ inner) [] same within = absurd (omega arith)
fewer (true ∷ inner) (true ∷ outer) same within =
    let rest = fewer inner outer (omega arith) (λ b held. within (suc b) held) in omega arith
fewer (true ∷ inner) (false ∷ outer) same within = let first = within 0 refl in absurd (cc)
fewer (false ∷ inner) (true ∷ outer) same within =
    let rest = fewer inner outer (omega arith) (λ b held. within (suc b) held) in omega arith
fewer (false ∷ inner) (false ∷ outer) same within = fewer inner outer (omega arith) (λ b held. within (suc b) held)

equal : (inner outer : List Bool) → length inner ≡ length outer → IsWithin inner outer
    → held_in outer ≡ held_in inner → outer ≡ inner
equal [] [] same within count = refl
equal [] (y ∷ outer) same within count = absurd (omega arith)
equal (x ∷ inner) [] same within count = absurd (omega arith)
equal (true ∷ inner) (true ∷ outer) same within count =
    ap (λ rest. true ∷ rest) (equal inner outer (omega arith) (λ b held. within (suc b) held) (omega arith))
equal (true ∷ inner) (false ∷ outer) same within count = let first = within 0 refl in absurd (cc)
equal (false ∷ inner) (true ∷ outer) same within count =
    let most = fewer inner outer (omega arith) (λ b held. within (suc b) held) in absurd (omega arith)
equal (false ∷ inner) (false ∷ outer) same within count =
    ap (λ rest. false ∷ rest) (equal inner outer (omega arith) (λ b held. within (suc b) held) count)

-- a set is one within it exactly where both have as many blocks
pub same_by_count : (inner outer : List Bool) → length inner ≡ length outer → IsWithin inner outer
    → IsTrue (held_in outer == held_in inner) ↔ (outer ≡ inner)
same_by_count inner outer same within = (
  (λ test. equal inner outer same within (eqb-true (held_in outer) (held_in inner) test)),
  (λ e. eq-eqb (held_in outer) (held_in inner) (ap held_in e)),
)
