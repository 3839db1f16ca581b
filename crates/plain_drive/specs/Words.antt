-- Words read from Data, and written to it, one after the other.
use Rattle.std.specs.Prelude.{ℕ, ◌/◌, ◌%◌, ◌<◌, zero, suc, List, [], ◌∷◌, All}
use Rattle.std.specs.List.{flat_map}
use Rattle.ata_taskfile.specs.Device.{Device, word_read, after_read_word, after_write_word}

-- what so many reads of Data answer (ATA/ATAPI-6, PIO data-in)
unfoldable pub words_read : ℕ → Device → List ℕ
words_read zero d = []
words_read (suc n) d = word_read d ∷ words_read n (after_read_word d)

-- the device after so many reads of Data
unfoldable pub after_words : ℕ → Device → Device
after_words zero d = d
after_words (suc n) d = after_words n (after_read_word d)

-- the device after writes of these words to Data (ATA/ATAPI-6, PIO data-out)
unfoldable pub after_written : List ℕ → Device → Device
after_written [] d = d
after_written (w ∷ words) d = after_written words (after_write_word w d)

-- words in bytes, the low byte of each first (ATA/ATAPI-6, Data register)
abbrev pub bytes_of : List ℕ → List ℕ
bytes_of words = flat_map (λ word. (word % 256) ∷ (word / 256) ∷ []) words

-- each of these numbers is a word of 16 bits
abbrev pub AreWords : List ℕ → Type 0
AreWords numbers = All (λ number. number < 65536) numbers
