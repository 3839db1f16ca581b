-- The words that IDENTIFY DEVICE gives (ATA/ATAPI-6, IDENTIFY DEVICE; own: each value).
use Rattle.std.specs.Prelude.{ℕ, ◌+◌, ◌-◌, ◌*◌, ◌/◌, ◌%◌, ◌^◌, ◌++◌, ◌==◌, ◌||◌, ◌&&◌, Bool, not, if◌then◌else◌, nat_lt, slice_index, zero, suc, List, [], ◌∷◌, codes}
use Rattle.ata_taskfile.specs.declared.registers.TheConstants.{BLOCK_WORDS}

-- the serial number (own)
abbrev pub serial_number : List ℕ
serial_number = codes "BMC00000000000000001"

-- the firmware revision (own)
abbrev pub firmware_revision : List ℕ
firmware_revision = codes "1.0     "

-- the model number (own)
abbrev pub model_number : List ℕ
model_number = codes "BMCAST DRIVE                            "

-- a word of a text: the first character of each pair is its high byte
-- (ATA/ATAPI-6, IDENTIFY DEVICE)
abbrev pub text_word : List ℕ → ℕ → ℕ
text_word text i = slice_index text (2 * i + 1) + 256 * slice_index text (2 * i)

-- 16 bits of a number, the i-th from the lowest
abbrev pub part_at : ℕ → ℕ → ℕ
part_at i n = n / 65536 ^ i % 65536

-- a place in a range of words
abbrev pub is_between : ℕ → ℕ → ℕ → Bool
is_between first last i = not (nat_lt i first) && not (nat_lt last i)

-- the word at a place, of a drive of so many sectors
abbrev pub identity_word : ℕ → ℕ → ℕ
identity_word i sectors =
    -- words 10 to 19: the serial number
    if is_between 10 19 i then text_word serial_number (i - 10) else
    -- words 23 to 26: the firmware revision
    if is_between 23 26 i then text_word firmware_revision (i - 23) else
    -- words 27 to 46: the model number
    if is_between 27 46 i then text_word model_number (i - 27) else
    -- word 49, 0300h: LBA (bit 9) and DMA (bit 8)
    if i == 49 then 768 else
    -- words 60 and 61: sectors in 28 bits, the low word first (own: the low 32 bits of the count, whatever it is)
    if is_between 60 61 i then part_at (i - 60) sectors else
    -- words 82 and 85, 0020h: the write cache (bit 5), there and on
    if (i == 82) || (i == 85) then 32 else
    -- word 83, 7400h: FLUSH CACHE EXT (bit 13), FLUSH CACHE (bit 12) and 48-bit addresses (bit 10); bit 14 is 1
    if i == 83 then 29696 else
    -- words 100 to 103: sectors in 48 bits, the low word first
    if is_between 100 103 i then part_at (i - 100) sectors else
    0

-- so many words, from word 0 on
unfoldable pub identity_front : ℕ → ℕ → List ℕ
identity_front zero sectors = []
identity_front (suc n) sectors = identity_front n sectors ++ identity_word n sectors ∷ []

-- the words of the whole block
abbrev pub identity : ℕ → List ℕ
identity sectors = identity_front BLOCK_WORDS sectors
