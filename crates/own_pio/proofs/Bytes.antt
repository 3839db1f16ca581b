-- Bytes put over others, two at a time.
use Rattle.std.proofs.Common.{◌≡◌, ℕ, ◌+◌, ◌*◌, ◌/◌, ◌%◌, ◌<◌, ◌≤◌, List, [], ◌∷◌, ◌++◌, length, zero, suc, take, get_or, refl, sym, ap, ◌∙◌, length-append, length-take, append_assoc, arith}
use Rattle.std.proofs.lemmas.List.{take_more}
use Rattle.std.proofs.Math.ListN.{set}
use Rattle.plain_drive.specs.Words.{bytes_of}
use Rattle.plain_drive.proofs.Blocks.{length_bytes, bytes_pushed}
use Rattle.own_pio.specs.Moving.{put_over}

-- no byte is put over others yet
pub over_none : (n : ℕ) (ys : List ℕ) → put_over n [] ys ≡ ys
over_none n [] = refl
over_none zero (y ∷ ys) = refl
over_none (suc n) (y ∷ ys) = ap (λ t. y ∷ t) (over_none n ys)

-- one byte more is put over others
over_more : (n : ℕ) (xs ys : List ℕ) (v m : ℕ) → m ≡ n + length xs → m < length ys
    → set (put_over n xs ys) m v ≡ put_over n (xs ++ v ∷ []) ys
over_more n xs [] v m is room = absurd (omega arith)
over_more zero [] (y ∷ ys) v zero is room = ap (λ t. v ∷ t) (sym (over_none 0 ys))
over_more zero [] (y ∷ ys) v (suc m) is room = absurd (omega arith)
over_more zero (x ∷ xs) (y ∷ ys) v zero is room = absurd (omega arith)
over_more zero (x ∷ xs) (y ∷ ys) v (suc m) is room = ap (λ t. x ∷ t)
    (over_more zero xs ys v m (omega arith) (omega arith))
over_more (suc n) xs (y ∷ ys) v zero is room = absurd (omega arith)
over_more (suc n) xs (y ∷ ys) v (suc m) is room = ap (λ t. y ∷ t) (over_more n xs ys v m (omega arith) (omega arith))

-- one word more is put over others, the low byte first
pub word_over : (i start low high : ℕ) (words bytes over : List ℕ) → length words ≡ 256 → i < 256
    → start + 512 ≤ length bytes
    → low ≡ get_or words i 0 % 256 → high ≡ get_or words i 0 / 256
    → over ≡ put_over start (bytes_of (take i words)) bytes
    → set (set over (start + 2 * i) low) (start + 2 * i + 1) high ≡ put_over start (bytes_of (take (i + 1) words)) bytes
word_over i start low high words bytes over whole below room is_low is_high so_far =
    let xs = bytes_of (take i words) in
    let many : length (take i words) ≡ i = omega (arith, length-take i words) in
    let long : length xs ≡ i + i = length_bytes (take i words) ∙ omega arith in
    let first = over_more start xs bytes low (start + 2 * i) (omega arith) (omega arith) in
    let sum = length-append xs (low ∷ []) in
    let second = over_more start (xs ++ low ∷ []) bytes high (start + 2 * i + 1) (omega arith) (omega arith) in
    let all : bytes_of (take (i + 1) words) ≡ xs ++ get_or words i 0 % 256 ∷ get_or words i 0 / 256 ∷ [] =
    ap bytes_of (take_more words i 0 (omega arith)) ∙ bytes_pushed (take i words) (get_or words i 0) in
    let two : xs ++ low ∷ [] ++ high ∷ [] ≡ bytes_of (take (i + 1) words) = append_assoc xs (low ∷ []) (high ∷ [])
    ∙ rw (is_low, is_high) (sym all) in
    rw so_far (ap (λ b. set b (start + 2 * i + 1) high) first ∙ second ∙ ap (λ x. put_over start x bytes) two)
