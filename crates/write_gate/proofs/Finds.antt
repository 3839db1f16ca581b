-- The first number of a range that passes a test.
use Rattle.std.proofs.Common.{◌≡◌, ℕ, zero, suc, ◌+◌, ◌<◌, ◌≤◌, Bool, true, false, Option, Some, List, [], ◌∷◌, inl, inr, arith, refl, cond, is_some, ◌||◌}
use Rattle.std.specs.List.{find, list_any, range_with_len}
use Rattle.std.proofs.lemmas.Bool.{cases_lt}

-- a number that passes, behind others that don't, is found
pub find_first : (p : ℕ → Bool) (n a s : ℕ) → a ≤ s → s < a + n → p s ≡ true
    → ((k : ℕ) → a ≤ k → k < s → p k ≡ false) → find p (range_with_len a n) ≡ Some s
find_first p zero a s from before passes others = absurd (omega arith)
find_first p (suc n) a s from before passes others = elim (cases_lt a s) [
  | inl later ↦
      let fails : p a ≡ false = others a (omega arith) later in
      rw fails (find_first p n (a + 1) s (omega arith) (omega arith) passes
      (λ k above below. others k (omega arith) below))
  | inr here ↦ let same : s ≡ a = omega arith in let it = rw same at passes in rw (it, same) refl
]

-- what is wanted of a number that was found
abbrev pub IsFirst : (ℕ → Bool) → ℕ → ℕ → ℕ → Type 0
IsFirst p n a s = (a ≤ s) × (s < a + n) × (p s ≡ true) × ((k : ℕ) → a ≤ k → k < s → p k ≡ false)

first_or_later : (p : ℕ → Bool) (n a s : ℕ) (b : Bool) → p a ≡ b
    → cond b (Some a) (find p (range_with_len (a + 1) n)) ≡ Some s
    → (find p (range_with_len (a + 1) n) ≡ Some s → IsFirst p n (a + 1) s) → IsFirst p (suc n) a s
first_or_later p n a s true head e later =
    let same : a ≡ s = grind arith in
    (omega arith, omega arith, rw same at head, λ k above below. absurd (omega arith))
first_or_later p n a s false head e later =
    let (from, before, passes, others) = later e in (
      omega arith,
      omega arith,
      passes,
      λ k above below. elim (cases_lt a k) [
        | inl behind ↦ others k (omega arith) below
        | inr here ↦ let it : k ≡ a = omega arith in rw it head
      ],
    )

-- a number that is found passes, and none before it does
pub find_is_first : (p : ℕ → Bool) (n a s : ℕ) → find p (range_with_len a n) ≡ Some s → IsFirst p n a s
find_is_first p zero a s e = cc
find_is_first p (suc n) a s e = first_or_later p n a s (p a) refl e (find_is_first p n (a + 1) s)

-- whether one passes is whether one is found
pub find_any : {X : Type 0} (p : X → Bool) (xs : List X) → is_some (find p xs) ≡ list_any p xs
find_any p [] = refl
find_any p (x ∷ xs) = by_head (p x) x (find p xs) (list_any p xs) (find_any p xs)
  where
    by_head : {X : Type 0} (b : Bool) (x : X) (o : Option X) (any : Bool) → is_some o ≡ any
        → is_some (cond b (Some x) o) ≡ (b || any)
    by_head true x o any rest = refl
    by_head false x o any rest = rest
