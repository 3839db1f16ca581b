-- The words of a block.
use Rattle.std.proofs.Common.{◌≡◌, ℕ, ◌+◌, ◌*◌, ◌<◌, ◌≤◌, List, [], ◌∷◌, ◌++◌, length, suc, take, get_or, refl, sym, ◌∙◌, ap, length-append, length-take, arith}
use Rattle.std.proofs.lemmas.List.{take_all, take_more, take_more_set}
use Rattle.std.proofs.Math.ListN.{set}
use Rattle.plain_drive.specs.Plain.{words_of}
use Rattle.plain_drive.specs.Identify.{identity_front, identity_word}
use Rattle.plain_drive.proofs.Blocks.{word_at}

-- a word more is counted
pub length_pushed : (n w : ℕ) (block : List ℕ) → n < length block → length (take n block) ≡ n
    → length (take (n + 1) (set block n w)) ≡ n + 1
length_pushed n w block room e =
    let sum = length-append (take n block) (w ∷ []) in
    rw (take_more_set block n w room) (omega arith)

-- so many first words
pub length_front : (n : ℕ) (block : List ℕ) → length block ≡ 256 → n ≤ 256 → length (take n block) ≡ n
length_front n block whole room = omega (arith, length-take n block)

-- all words of a block
pub whole_block : (block : List ℕ) → length block ≡ 256 → take 256 block ≡ block
whole_block block whole = take_all 256 block (omega arith)

-- all bytes of a sector
pub whole_bytes : (bytes : List ℕ) → length bytes ≡ 512 → take 512 bytes ≡ bytes
whole_bytes bytes whole = take_all 512 bytes (omega arith)

-- the next word of IDENTIFY DEVICE
pub identity_more : (i n w : ℕ) (words : List ℕ) → i < length words → take i words ≡ identity_front i n
    → w ≡ identity_word i n
    → take (i + 1) (set words i w) ≡ identity_front (i + 1) n
unfolding identity_front
identity_more i n w words room so_far is =
    let next : i + 1 ≡ suc i = omega arith in
    take_more_set words i w room ∙ rw (so_far, is, next) refl

-- before the first word
pub identity_none : (n : ℕ) (words : List ℕ) → take 0 words ≡ identity_front 0 n
unfolding identity_front
identity_none n words = refl

-- the next word of a sector
pub words_more : (i w : ℕ) (bytes words : List ℕ) → 2 * i + 1 < length bytes → i < length words
    → take i words ≡ take i (words_of bytes)
    → w ≡ get_or bytes (2 * i) 0 + 256 * get_or bytes (2 * i + 1) 0
    → take (i + 1) (set words i w) ≡ take (i + 1) (words_of bytes)
words_more i w bytes words below room so_far is =
    let at = word_at i bytes below in
    take_more_set words i w room ∙ rw so_far (ap (λ v. take i (words_of bytes) ++ v ∷ []) (is ∙ sym at.1))
    ∙ sym (take_more (words_of bytes) i 0 at.0)
