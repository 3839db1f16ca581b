-- A buffer of zeros that is filled from the front.
use Rattle.std.proofs.Common.{◌≡◌, ℕ, ◌+◌, ◌-◌, List, [], ◌++◌, length, take, drop, replicate, arith, ap, sym, ◌∙◌, append_assoc, append-nil}
use Rattle.std.proofs.lemmas.List.{take_at, drop_at, drop-replicate, take_all, length-replicate}
use borrow.Rule.Slice.PartMut.{put_mid, mid_of, post_of}

-- the first bytes, before so many zeros
pub begun : (n k r : ℕ) (first zeros : List ℕ) → k ≡ n + r → zeros ≡ replicate k 0
    → first ++ post_of 0 n zeros ≡ first ++ replicate r 0
begun n k r first zeros fits are =
    let less : k - n ≡ r = omega arith in
    ap (λ xs. first ++ drop n xs) are ∙ ap (λ xs. first ++ xs) (drop-replicate n k 0 ∙ ap (λ m. replicate m 0) less)

-- n more bytes behind those that are there
pub filled_on : (at k n r : ℕ) (front bytes old part : List ℕ) → length front ≡ at → k ≡ n + r
    → old ≡ front ++ replicate k 0 → part ≡ bytes ++ drop n (mid_of at k old)
    → put_mid at k old part ≡ (front ++ bytes) ++ replicate r 0
filled_on at k n r front bytes old part long fits was now =
    let rest : drop at old ≡ replicate k 0 = ap (drop at) was ∙ drop_at front (replicate k 0) at long in
    let left : take at old ≡ front = ap (take at) was ∙ take_at front (replicate k 0) at long in
    let many : length (replicate k 0) ≡ k = length-replicate {A = ℕ} k 0 in
    let whole : take k (replicate k 0) ≡ replicate k 0 = take_all k (replicate k 0) (omega arith) in
    let less : k - n ≡ r = omega arith in
    let none : k - k ≡ 0 = omega arith in
    let behind : drop n (mid_of at k old) ≡ replicate r 0 =
    ap (λ xs. drop n (take k xs)) rest ∙ ap (drop n) whole ∙ drop-replicate n k 0 ∙ ap (λ m. replicate m 0) less in
    let past : post_of at k old ≡ [] = ap (drop k) rest ∙ drop-replicate k k 0 ∙ ap (λ m. replicate m 0) none in
    let new : part ≡ bytes ++ replicate r 0 = now ∙ ap (λ xs. bytes ++ xs) behind in
    ap (λ xs. xs ++ (part ++ post_of at k old)) left ∙ ap (λ xs. front ++ (part ++ xs)) past
    ∙ ap (λ xs. front ++ xs) (append-nil part ∙ new) ∙ sym (append_assoc front bytes (replicate r 0))
