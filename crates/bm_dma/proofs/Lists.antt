-- Neighbouring numbers, and parts of lists.
use Rattle.std.proofs.Common.{◌≡◌, ℕ, zero, suc, ◌+◌, ◌-◌, ◌≤◌, ◌⊎◌, min, List, [], ◌∷◌, ◌++◌, length, take, drop, arith, refl, sym, ap, inl, inr, ◌∙◌}
use Rattle.std.specs.List.{range_with_len}
use Rattle.std.proofs.lemmas.Bool.{cases_lt}
use Rattle.bm_dma.specs.declared.descriptor.Descriptor.{Descriptor}
use Rattle.bm_dma.specs.Descriptor.{with_piece}

-- one number more
range_suc : (a n j : ℕ) → a + n ≡ j → range_with_len a (suc n) ≡ range_with_len a n ++ j ∷ []
range_suc a zero j e = let same : a ≡ j = omega arith in rw same refl
range_suc a (suc n) j e = ap (λ xs. a ∷ xs) (range_suc (a + 1) n j (omega arith))

pub range_more : (a n m j : ℕ) → m ≡ n + 1 → a + n ≡ j → range_with_len a m ≡ range_with_len a n ++ j ∷ []
range_more a n m j e place = let one : m ≡ suc n = omega arith in rw one (range_suc a n j place)

-- the first of neighbouring numbers
take_range : (k a n m : ℕ) → m ≡ min k n → take k (range_with_len a n) ≡ range_with_len a m
take_range zero a n m e = let none : m ≡ 0 = omega arith in rw none refl
take_range (suc k) a zero m e = let none : m ≡ 0 = omega arith in rw none refl
take_range (suc k) a (suc n) zero e = absurd (omega arith)
take_range (suc k) a (suc n) (suc m) e = ap (λ xs. a ∷ xs) (take_range k (a + 1) n m (omega arith))

-- those behind the first
drop_range : (k a n b m : ℕ) → b ≡ a + k → m ≡ n - k → drop k (range_with_len a n) ≡ range_with_len b m
drop_range zero a n b m place count = let same : b ≡ a = omega arith in let all : m ≡ n = omega arith in
    rw (same, all) refl
drop_range (suc k) a zero b m place count = let none : m ≡ 0 = omega arith in rw none refl
drop_range (suc k) a (suc n) b m place count = drop_range k (a + 1) n b m (omega arith) (omega arith)

-- no numbers are none, wherever they begin
moved : (a n b : ℕ) → (b ≡ a) ⊎ (n ≡ 0) → range_with_len b n ≡ range_with_len a n
moved a n b (inl same) = rw same refl
moved a n b (inr none) = rw none refl

near : (base start count first n : ℕ) → first ≡ base + min start count → (count ≤ start → n ≡ 0)
    → (first ≡ base + start) ⊎ (n ≡ 0)
near base start count first n f none = elim (cases_lt start count) [
  | inl inside ↦ inl (omega arith)
  | inr past ↦ inr (none past)
]

-- the places of a descriptor that a sector needs are neighbouring numbers
pub piece_is : (d : Descriptor) (start end first behind : ℕ) (found : List ℕ) → end ≡ start + (512 - length found)
    → first ≡ d.base + min start d.count → behind ≡ d.base + min end d.count
    → found ++ range_with_len first (behind - first) ≡ with_piece d start found
piece_is d start end first behind found e f b =
    let rest = drop_range start d.base d.count (d.base + start) (d.count - start) refl refl in
    let part = take_range (512 - length found) (d.base + start) (d.count - start) (behind - first) (omega arith) in
    ap (λ xs. found ++ xs) (moved (d.base + start) (behind - first) first
    (near d.base start d.count first (behind - first) f (λ past. omega arith))
    ∙ sym (ap (take (512 - length found)) rest ∙ part))

-- the first of two lists
pub take_both : (n m : ℕ) (xs ys : List ℕ) → m ≡ n - length xs → take n (xs ++ ys) ≡ take n xs ++ take m ys
take_both zero m xs ys e = let none : m ≡ 0 = omega arith in rw none refl
take_both (suc n) m [] ys e = let same : m ≡ suc n = omega arith in rw same refl
take_both (suc n) m (x ∷ xs) ys e = ap (λ l. x ∷ l) (take_both n m xs ys (omega arith))

-- those behind the first, of two lists
pub drop_both : (n m : ℕ) (xs ys : List ℕ) → m ≡ n - length xs → drop n (xs ++ ys) ≡ drop n xs ++ drop m ys
drop_both zero m xs ys e = let none : m ≡ 0 = omega arith in rw none refl
drop_both (suc n) m [] ys e = let same : m ≡ suc n = omega arith in rw same refl
drop_both (suc n) m (x ∷ xs) ys e = drop_both n m xs ys (omega arith)
