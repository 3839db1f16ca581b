-- The words of a block, which go through Data one at a time.
use Rattle.std.specs.Prelude.{ℕ, Bool, true, false, ◌+◌, ◌-◌, ◌++◌, if◌then◌else◌, nat_lt, slice_index, List, [], ◌∷◌}
use Rattle.ata_taskfile.specs.declared.Form.{Form}
use Rattle.ata_taskfile.specs.declared.Form.TheVariants.{NoMove, PioIn, PioOut, DmaIn, DmaOut}
use Rattle.ata_taskfile.specs.declared.Request.{Request}
use Rattle.ata_taskfile.specs.declared.Taken.TheVariants.{Good, Bad}
use Rattle.ata_taskfile.specs.declared.Phase.{Phase}
use Rattle.ata_taskfile.specs.declared.Phase.TheVariants.{Reset, Idle, Busy, Ready}
use Rattle.ata_taskfile.specs.declared.registers.TheConstants.{BLOCK_WORDS}

-- a command whose words are read from Data (ATA/ATAPI-6, PIO data-in)
abbrev pub gives_words : Form → Bool
gives_words NoMove = false
gives_words PioIn = true
gives_words PioOut = false
gives_words DmaIn = false
gives_words DmaOut = false

-- a command whose words are written to Data (ATA/ATAPI-6, PIO data-out)
abbrev pub takes_words : Form → Bool
takes_words NoMove = false
takes_words PioIn = false
takes_words PioOut = true
takes_words DmaIn = false
takes_words DmaOut = false

-- a command whose sectors the bus master moves (ATA/ATAPI-6, DMA)
abbrev pub moves_by_bus : Form → Bool
moves_by_bus NoMove = false
moves_by_bus PioIn = false
moves_by_bus PioOut = false
moves_by_bus DmaIn = true
moves_by_bus DmaOut = true

-- a block waits in Data to be read
abbrev pub is_given : Phase → Bool
is_given Reset = false
is_given Idle = false
is_given (Busy taken done) = false
is_given (Ready (Good order) done left) = gives_words order.form
is_given (Ready (Bad reason) done left) = false

-- a block is wanted in Data
abbrev pub is_wanted : Phase → Bool
is_wanted Reset = false
is_wanted Idle = false
is_wanted (Busy taken done) = false
is_wanted (Ready (Good order) done left) = takes_words order.form
is_wanted (Ready (Bad reason) done left) = false

-- how many words of the block are left in Data; none outside of Ready
abbrev pub left_in : Phase → ℕ
left_in Reset = 0
left_in Idle = 0
left_in (Busy taken done) = 0
left_in (Ready taken done left) = left

-- what a read of Data answers: the next word of the block, and FFFFh outside a transfer (own)
abbrev pub word_in : Phase → List ℕ → ℕ
word_in phase block =
    if is_given phase then slice_index block (BLOCK_WORDS - left_in phase) else 65535

-- the phase when the last word of a block was read: the next sector is due, or the command has ended
-- (ATA/ATAPI-6, PIO data-in)
abbrev pub block_read : Request → ℕ → Phase
block_read order done = if nat_lt (done + 1) order.count then Busy (Good order) (done + 1) else Idle

-- the phase after a word of a block was read
abbrev pub word_given : Request → ℕ → ℕ → Phase
word_given order done left =
    if nat_lt 1 left then Ready (Good order) done (left - 1) else block_read order done

-- the phase after a word of a block was written: after the last one the drive is at work on the block
-- (ATA/ATAPI-6, PIO data-out)
abbrev pub word_taken : Request → ℕ → ℕ → Phase
word_taken order done left =
    if nat_lt 1 left then Ready (Good order) done (left - 1) else Busy (Good order) (done + 1)

-- the phase after a read of Data
abbrev pub phase_after_read : Phase → Phase
phase_after_read Reset = Reset
phase_after_read Idle = Idle
phase_after_read (Busy taken done) = Busy taken done
phase_after_read (Ready (Good order) done left) =
    if gives_words order.form then word_given order done left else Ready (Good order) done left
phase_after_read (Ready (Bad reason) done left) = Ready (Bad reason) done left

-- the phase after a write of Data
abbrev pub phase_after_write : Phase → Phase
phase_after_write Reset = Reset
phase_after_write Idle = Idle
phase_after_write (Busy taken done) = Busy taken done
phase_after_write (Ready (Good order) done left) =
    if takes_words order.form then word_taken order done left else Ready (Good order) done left
phase_after_write (Ready (Bad reason) done left) = Ready (Bad reason) done left

-- the block after a write of Data, which is ignored outside a transfer (own)
abbrev pub block_after_write : ℕ → Phase → List ℕ → List ℕ
block_after_write w phase block = if is_wanted phase then block ++ w ∷ [] else block
