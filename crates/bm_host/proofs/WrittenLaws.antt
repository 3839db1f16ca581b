-- A write into bytes that were first lengthened with zeros.
use Rattle.std.proofs.Common.{◌≡◌, ℕ, zero, suc, ◌+◌, ◌-◌, ◌≤◌, max, List, [], ◌∷◌, ◌++◌, length, take, drop, replicate, refl, sym, ap, ◌∙◌, arith, append_assoc}
use Rattle.std.proofs.lemmas.Grind.{common_steps}
use Rattle.std.proofs.lemmas.List.{take-replicate}
use Rattle.bm_host.specs.Outside.{written_at}

-- how far zeros reach past a place doesn't show before it
padded_before : (n m : ℕ) (xs : List ℕ) → n ≤ m →
    take n (xs ++ replicate (m - length xs) 0) ≡ take n (xs ++ replicate (n - length xs) 0)
padded_before n m [] h =
    let e : m - 0 ≡ m = omega arith in
    let f : n - 0 ≡ n = omega arith in
    rw (e, f) (take-replicate {X = ℕ} n m 0 h ∙ sym (take-replicate {X = ℕ} n n 0 (omega arith)))
padded_before zero m (x ∷ xs) h = refl
padded_before (suc n) m (x ∷ xs) h =
    let e : m - suc (length xs) ≡ (m - 1) - length xs = omega arith in
    let f : suc n - suc (length xs) ≡ n - length xs = omega arith in
    rw (e, f) (ap (λ t. x ∷ t) (padded_before n (m - 1) xs (omega arith)))

-- the zeros end where the write ends, or there are none
padded_after : (end len : ℕ) (xs : List ℕ) → len ≡ max (length xs) end →
    drop end (xs ++ replicate (len - length xs) 0) ≡ drop end xs
padded_after end len xs e = grind (arith, common_steps)

-- the bytes of a vector that was lengthened, and then written to
pub overwritten : (place len : ℕ) (from old items new : List ℕ) → len ≡ max (length old) (place + length from) →
    items ≡ take len old ++ replicate (len - length old) 0 →
    new ≡ take place items ++ (from ++ drop (place + length from) items) →
    take len (new ++ drop (length new) items) ≡ written_at place from old
overwritten place len from old items new f i n =
    let whole : items ≡ old ++ replicate (len - length old) 0 = grind (arith, common_steps) in
    let long : length items ≡ len = grind (arith, common_steps) in
    let same : length new ≡ len = grind (arith, common_steps) in
    let all : take len (new ++ drop (length new) items) ≡ new = grind (arith, common_steps) in
    let p = padded_before place len old (omega arith) in
    let q = padded_after (place + length from) len old f in
    all ∙ n ∙ rw whole (rw (p, q) (sym (append_assoc _ from _)))
