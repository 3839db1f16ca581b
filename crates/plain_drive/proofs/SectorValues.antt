-- The values of sectors, as bytes and as words.
use Rattle.std.proofs.Common.{◌≡◌, ℕ, ◌+◌, ◌*◌, ◌/◌, ◌%◌, ◌<◌, ◌≤◌, List, [], ◌∷◌, ◌++◌, length, zero, suc, refl, ap, arith}
use Rattle.std.specs.Prelude.{All, Contains, slice_index_or}
use Rattle.std.proofs.lemmas.List.Elements.{All-append, All-cons, All-contains, All-nil, All-tail}
use Rattle.ata_taskfile.specs.Device.{Cell, Device}
use Rattle.ata_taskfile.specs.Sectors.{AreBytes, HoldsSector, HoldsSectors, IsSector}
use Rattle.plain_drive.specs.Plain.{current, settled, sector_value, values, words_of}
use Rattle.plain_drive.specs.Words.{AreWords, bytes_of}
use Rattle.plain_drive.proofs.Blocks.{block_bytes}

-- each value of a cell is a sector's
pub values_held : (cell : Cell) (value : List ℕ) → HoldsSector cell → Contains (values cell) value → IsSector value
values_held cell value holds contains = All-contains IsSector (values cell) value
    (All-append IsSector cell.written (cell.durable ∷ []) holds.written
    (All-cons IsSector cell.durable [] holds.durable (All-nil IsSector))) contains

newest_held : (durable : List ℕ) (written : List (List ℕ)) → IsSector durable → All IsSector written
    → IsSector (slice_index_or written 0 durable)
newest_held durable [] is all = is
newest_held durable (value ∷ written) is all = all 0 durable (omega arith)

-- the current value of each sector is a sector's
pub current_held : (s : ℕ) (d : Device) → HoldsSectors d → s < length d.cells → IsSector (sector_value s d)
current_held s d holds below =
    let cell = slice_index_or d.cells s (settled []) in
    let h : HoldsSector cell = holds s (settled []) below in
    newest_held cell.durable cell.written h.durable h.written

-- of bytes the first two are bytes, and so are the others
first_byte : (x y : ℕ) (rest : List ℕ) → AreBytes (x ∷ y ∷ rest) → x < 256
first_byte x y rest small = small 0 0 (omega arith)

second_byte : (x y : ℕ) (rest : List ℕ) → AreBytes (x ∷ y ∷ rest) → y < 256
second_byte x y rest small = small 1 0 (omega arith)

more_bytes : (x y : ℕ) (rest : List ℕ) → AreBytes (x ∷ y ∷ rest) → AreBytes rest
more_bytes x y rest small = let P : ℕ → Type 0 = λ number. number < 256 in
    All-tail P y rest (All-tail P x (y ∷ rest) small)

-- two bytes in a word, and the word in two bytes
low_back : (low high : ℕ) → low < 256 → (low + 256 * high) % 256 ≡ low
low_back low high small = omega arith

high_back : (low high : ℕ) → low < 256 → (low + 256 * high) / 256 ≡ high
high_back low high small = omega arith

word_back : (w : ℕ) → w % 256 + 256 * (w / 256) ≡ w
word_back w = omega arith

bytes_back : (n : ℕ) (value : List ℕ) → length value ≡ n + n → AreBytes value → bytes_of (words_of value) ≡ value
bytes_back n [] e small = refl
bytes_back zero (x ∷ []) e small = absurd (omega arith)
bytes_back (suc n) (x ∷ []) e small = absurd (omega arith)
bytes_back zero (low ∷ high ∷ rest) e small = absurd (omega arith)
bytes_back (suc n) (low ∷ high ∷ rest) e small =
    let l = low_back low high (first_byte low high rest small) in
    let h = high_back low high (first_byte low high rest small) in
    let more = bytes_back n rest (omega arith) (more_bytes low high rest small) in
    rw (l, h, more) refl

pub sector_back : (value : List ℕ) → IsSector value → bytes_of (words_of value) ≡ value
sector_back value is = bytes_back 256 value is.size is.bytes

pub words_back : (words : List ℕ) → words_of (bytes_of words) ≡ words
words_back [] = refl
words_back (w ∷ words) = let here = word_back w in let more = words_back words in rw (here, more) refl

-- words of 16 bits give bytes
words_are_bytes : (words : List ℕ) → AreWords words → AreBytes (bytes_of words)
words_are_bytes [] small = All-nil (λ number. number < 256)
words_are_bytes (w ∷ words) small =
    let P : ℕ → Type 0 = λ number. number < 256 in
    let here : w < 65536 = small 0 0 (omega arith) in
    let more = words_are_bytes words (All-tail (λ number. number < 65536) w words small) in
    All-cons P (w % 256) (w / 256 ∷ bytes_of words) (omega arith)
    (All-cons P (w / 256) (bytes_of words) (omega arith) more)

pub block_is_sector : (words : List ℕ) → AreWords words → length words ≡ 256 → IsSector (bytes_of words)
block_is_sector words small whole = record {
  size = block_bytes words whole;
  bytes = words_are_bytes words small;
}

-- bytes give words of 16 bits
pub bytes_are_words : (bytes : List ℕ) → AreBytes bytes → AreWords (words_of bytes)
bytes_are_words [] small = All-nil (λ number. number < 65536)
bytes_are_words (x ∷ []) small = All-nil (λ number. number < 65536)
bytes_are_words (low ∷ high ∷ rest) small =
    let l = first_byte low high rest small in
    let h = second_byte low high rest small in
    All-cons (λ number. number < 65536) (low + 256 * high) (words_of rest) (omega arith)
    (bytes_are_words rest (more_bytes low high rest small))
