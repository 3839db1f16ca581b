-- Bytes that are taken one by one from a block.
use Rattle.std.proofs.lemmas.List.{take-append-drop, drop-take}
use Rattle.std.proofs.Common.{◌-◌, drop-drop, sym, ap, ◌∙◌, ◌≡◌, ℕ, ◌+◌, ◌<◌, ◌≤◌, List, ◌∷◌, ◌++◌, length, get_or, take, drop, refl, add-one, arith, length-take, drop-cons, get_or-take}

-- the first byte that isn't taken, and those after it
pub next_of_block : (block more : List ℕ) (at end : ℕ) → at < end → end ≤ length block
    → drop at (take end block) ++ more ≡ get_or block at 0 ∷ (drop (at + 1) (take end block) ++ more)
next_of_block block more at end below fits =
    let there : at < length (take end block) = omega (arith, length-take end block) in
    rw (add-one, drop-cons (take end block) at 0) (rw get_or-take refl)

-- the bytes that aren't taken, as a slice of the block
block_left : (at end : ℕ) (block : List ℕ) → at ≤ end → drop at (take end block) ≡ take (end - at) (drop at block)
block_left at end block order =
    let whole : end ≡ at + (end - at) = omega arith in
    ap (λ (n : ℕ). drop at (take n block)) whole ∙ drop-take at (end - at) block

-- the first of the bytes that aren't taken, so many, and those after them
pub block_front : (n at end : ℕ) (block : List ℕ) → at ≤ end
    → drop at (take end block) ≡ take n (take (end - at) (drop at block)) ++ drop (at + n) (take end block)
block_front n at end block order =
    let left = drop at (take end block) in
    sym (take-append-drop n left) ∙ ap (λ (rest : List ℕ). take n left ++ rest) (drop-drop n at (take end block))
    ∙ ap (λ (first : List ℕ). take n first ++ drop (at + n) (take end block)) (block_left at end block order)
