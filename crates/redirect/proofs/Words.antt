-- A word among bytes.
use Rattle.std.proofs.Common.{◌≡◌, ℕ, ◌+◌, ◌*◌, ◌<◌, List, length, get_or, sym, ◌∙◌}
use Rattle.plain_drive.specs.Plain.{words_of}
use Rattle.plain_drive.proofs.Blocks.{word_at}

-- a word of a sector is made of the two bytes at its place
pub word_of_bytes : (i word : ℕ) (sector shown : List ℕ) → shown ≡ sector → 2 * i + 1 < length sector
    → word ≡ get_or shown (2 * i) 0 + 256 * get_or shown (2 * i + 1) 0 → word ≡ get_or (words_of sector) i 0
word_of_bytes i word sector shown same room is = rw same at is ∙ sym (word_at i sector room).1
