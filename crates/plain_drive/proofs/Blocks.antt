-- A block as words and as bytes.
use Rattle.std.proofs.Common.{◌≡◌, ℕ, ◌+◌, ◌*◌, ◌/◌, ◌%◌, ◌<◌, List, [], ◌∷◌, ◌++◌, length, zero, suc, get_or, refl, ap, arith}
use Rattle.plain_drive.specs.Plain.{words_of}
use Rattle.plain_drive.specs.Words.{bytes_of}

-- there are two bytes for each word
pub length_bytes : (words : List ℕ) → length (bytes_of words) ≡ length words + length words
length_bytes [] = refl
length_bytes (w ∷ words) = let rest = length_bytes words in omega arith

-- so a whole block has the bytes of a sector
pub block_bytes : (block : List ℕ) → length block ≡ 256 → length (bytes_of block) ≡ 512
block_bytes block whole = let two = length_bytes block in omega arith

-- there are half as many words as bytes
pub length_words : (n : ℕ) (bytes : List ℕ) → length bytes ≡ n + n → length (words_of bytes) ≡ n
length_words zero [] e = refl
length_words (suc n) [] e = absurd (omega arith)
length_words n (x ∷ []) e = absurd (omega arith)
length_words zero (x ∷ y ∷ rest) e = absurd (omega arith)
length_words (suc n) (x ∷ y ∷ rest) e = ap suc (length_words n rest (omega arith))

-- a word is made of its two bytes
pub word_at : (i : ℕ) (bytes : List ℕ) → 2 * i + 1 < length bytes
    → (i < length (words_of bytes)) × (get_or (words_of bytes) i 0 ≡ get_or bytes (2 * i) 0 + 256 * get_or bytes
    (2 * i + 1) 0)
word_at i [] room = absurd (omega arith)
word_at i (x ∷ []) room = absurd (omega arith)
word_at zero (x ∷ y ∷ rest) room = (omega arith, refl)
word_at (suc i) (x ∷ y ∷ rest) room =
    let low : 2 * suc i ≡ suc (suc (2 * i)) = omega arith in
    let high : suc (suc (2 * i)) + 1 ≡ suc (suc (2 * i + 1)) = omega arith in
    let here = word_at i rest (omega arith) in
    let within = here.0 in
    (omega arith, rw (low, high) here.1)

-- a word behind the others is two bytes, the low one first
pub bytes_pushed : (front : List ℕ) (w : ℕ) → bytes_of (front ++ w ∷ []) ≡ bytes_of front ++ w % 256 ∷ w / 256 ∷ []
bytes_pushed [] w = refl
bytes_pushed (x ∷ front) w = ap (λ ws. (x % 256) ∷ (x / 256) ∷ ws) (bytes_pushed front w)
