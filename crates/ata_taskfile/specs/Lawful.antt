-- What every device keeps: of its registers, of the command in hand, and of the block in Data.
use Rattle.std.specs.Prelude.{ℕ, Bool, true, false, not, ◌≡◌, ◌&&◌, ◌||◌, ◌==◌, ◌+◌, ◌-◌, ◌%◌, ◌<◌, ◌≤◌, if◌then◌else◌, nat_lt, bit_and, Option, Some, None, is_some, List, length}
use Rattle.ata_taskfile.specs.declared.Kind.{Kind}
use Rattle.ata_taskfile.specs.declared.Kind.TheVariants.{Read, Write, Verify, Flush, Identify, Features}
use Rattle.ata_taskfile.specs.declared.Form.{Form}
use Rattle.ata_taskfile.specs.declared.Form.TheVariants.{NoMove, PioIn, PioOut, DmaIn, DmaOut}
use Rattle.ata_taskfile.specs.declared.Taken.{Taken}
use Rattle.ata_taskfile.specs.declared.Taken.TheVariants.{Good, Bad}
use Rattle.ata_taskfile.specs.declared.Phase.{Phase}
use Rattle.ata_taskfile.specs.declared.Phase.TheVariants.{Reset, Idle, Busy, Ready}
use Rattle.ata_taskfile.specs.declared.task_file.TaskFile.{TaskFile}
use Rattle.ata_taskfile.specs.declared.bus_master.Bus.{Bus}
use Rattle.ata_taskfile.specs.declared.registers.TheConstants.{SRST, CONTROL_BITS, DEV, BLOCK_WORDS}
use Rattle.ata_taskfile.specs.TaskFile.{has_bit}
use Rattle.ata_taskfile.specs.Order.{has_range, count_without_range}
use Rattle.ata_taskfile.specs.Data.{gives_words, takes_words, moves_by_bus, left_in}
use Rattle.ata_taskfile.specs.Device.{Device, is_moving}

-- the drive is in reset
abbrev pub is_in_reset : Phase → Bool
is_in_reset Reset = true
is_in_reset Idle = false
is_in_reset (Busy taken done) = false
is_in_reset (Ready taken done left) = false

-- a command is in hand
abbrev pub has_order : Phase → Bool
has_order Reset = false
has_order Idle = false
has_order (Busy taken done) = true
has_order (Ready taken done left) = true

-- how many sectors of the order in hand are done; 0 without one
abbrev pub position_of : Phase → ℕ
position_of Reset = 0
position_of Idle = 0
position_of (Busy taken done) = done
position_of (Ready taken done left) = done

-- the drive is at work on a command of which nothing is done
abbrev pub is_just_taken : Phase → Bool
is_just_taken Reset = false
is_just_taken Idle = false
is_just_taken (Busy taken done) = done == 0
is_just_taken (Ready taken done left) = false

-- how many sectors a running walk has moved; 0 without one
abbrev pub moved_by : Option ℕ → ℕ
moved_by None = 0
moved_by (Some moved) = moved

-- how many sectors a walk may have moved: those that are done of a command whose sectors the bus master
-- moves
abbrev pub movable_in : Phase → ℕ
movable_in phase = if is_moving phase then position_of phase else 0

-- a command without data
abbrev pub moves_nothing : Form → Bool
moves_nothing NoMove = true
moves_nothing PioIn = false
moves_nothing PioOut = false
moves_nothing DmaIn = false
moves_nothing DmaOut = false

-- a form in which a command of this kind moves its data
abbrev pub moves_in : Kind → Form → Bool
moves_in Read form = gives_words form || moves_by_bus form
moves_in Write form = takes_words form || moves_by_bus form
moves_in Verify form = moves_nothing form
moves_in Flush form = moves_nothing form
moves_in Identify form = gives_words form
moves_in Features form = moves_nothing form

-- words of the block are left wherever the phase is Ready
abbrev pub has_words_left : Phase → Bool
has_words_left Reset = true
has_words_left Idle = true
has_words_left (Busy taken done) = true
has_words_left (Ready taken done left) = nat_lt 0 left

-- a count that a kind of command has: 1 or more sectors of a range, else the one count without a range
abbrev pub has_count : Kind → ℕ → Bool
has_count kind count =
    if has_range kind then not (count == 0) else count == count_without_range kind

-- an order in hand is one that the table of commands can give
abbrev pub is_possible : Taken → Bool
is_possible (Good order) = moves_in order.kind order.form && has_count order.kind order.count
is_possible (Bad reason) = true

-- the order in hand, if there is one, is possible
abbrev pub has_possible_order : Phase → Bool
has_possible_order Reset = true
has_possible_order Idle = true
has_possible_order (Busy taken done) = is_possible taken
has_possible_order (Ready taken done left) = is_possible taken

-- the positions at which the drive is at work on so many sectors lie below this one: behind the last sector a
-- written block or a transfer has still to end
abbrev pub work_end : Form → ℕ → ℕ
work_end NoMove count = 1
work_end PioIn count = count
work_end PioOut count = count + 1
work_end DmaIn count = count + 1
work_end DmaOut count = count + 1

-- the positions at which a block waits in Data, or is wanted there, lie below this one
abbrev pub wait_end : Form → ℕ → ℕ
wait_end NoMove count = 0
wait_end PioIn count = count
wait_end PioOut count = count
wait_end DmaIn count = 0
wait_end DmaOut count = 0

-- the positions of a phase lie below this one
abbrev pub position_end : Phase → ℕ
position_end Reset = 1
position_end Idle = 1
position_end (Busy (Good order) done) = work_end order.form order.count
position_end (Busy (Bad reason) done) = 1
position_end (Ready (Good order) done left) = wait_end order.form order.count
position_end (Ready (Bad reason) done left) = 0

-- a phase as every device has it (own)
pub record IsLawfulPhase (phase : Phase) : Type 0 where
  pub possible : has_possible_order phase ≡ true
  pub goes_on : position_of phase < position_end phase
  pub some_left : has_words_left phase ≡ true
  pub most_left : left_in phase ≤ BLOCK_WORDS

-- registers and bus master as every device has them, by what the rules look at (own)
pub record AreLawful (control device error : ℕ) (failed pending : Bool) (phase : Phase)
    (b : Bus) : Type 0 where
  -- Device Control has no bits but HOB, SRST and nIEN, and SRST in reset alone
  pub kept : bit_and control CONTROL_BITS ≡ control
  pub held : has_bit SRST control ≡ true → is_in_reset phase ≡ true
  -- a command in hand has no Error and isn't failed
  pub no_error : has_order phase ≡ true → error ≡ 0
  pub not_failed : has_order phase ≡ true → failed ≡ false
  -- a command that was just taken has DEV at 0 and no interrupt
  pub selected : is_just_taken phase ≡ true → has_bit DEV device ≡ false
  pub acknowledged : is_just_taken phase ≡ true → pending ≡ false
  pub goes_on : IsLawfulPhase phase
  pub pointer : b.pointer % 4 ≡ 0
  -- only start lets active be 1, and only active a walk run
  pub active : b.active ≡ true → b.start ≡ true
  pub walking : is_some b.walk ≡ true → b.active ≡ true
  -- a walk has moved no more than its command has done
  pub moved : moved_by b.walk ≤ movable_in phase

-- a task file and a bus master as every device has them
abbrev pub HasLawfulRegisters : TaskFile → Bus → Type 0
HasLawfulRegisters f b = AreLawful f.control f.device f.error f.failed f.pending f.phase b

-- the sector after the last one of an order; 0 of a refused one
abbrev pub end_in : Taken → ℕ
end_in (Good order) = order.first + order.count
end_in (Bad reason) = 0

-- the sector after the last one of the order in hand; 0 without one
abbrev pub end_of : Phase → ℕ
end_of Reset = 0
end_of Idle = 0
end_of (Busy taken done) = end_in taken
end_of (Ready taken done left) = end_in taken

-- a block of so many words is what a phase wants: a whole one where it is given or was taken, the words that came so
-- far where it is wanted, and any number where no block is in transfer
abbrev pub has_its_words : Phase → ℕ → Bool
has_its_words Reset words = true
has_its_words Idle words = true
has_its_words (Busy (Good order) done) words =
    not (takes_words order.form) || (done == 0) || (words == BLOCK_WORDS)
has_its_words (Busy (Bad reason) done) words = true
has_its_words (Ready (Good order) done left) words =
    if takes_words order.form then words == BLOCK_WORDS - left else words == BLOCK_WORDS
has_its_words (Ready (Bad reason) done left) words = true

-- these registers have two bytes each, the current one and then the previous one (ATA/ATAPI-6, 48-bit Address
-- feature set)
pub record ArePairs (counts lows mids highs : List ℕ) : Type 0 where
  pub count : length counts ≡ 2
  pub low : length lows ≡ 2
  pub mid : length mids ≡ 2
  pub high : length highs ≡ 2

-- each two-byte register has two bytes
abbrev pub HasTwoBytes : TaskFile → Type 0
HasTwoBytes f = ArePairs f.count f.low f.mid f.high

-- registers, bus master, block of so many words and count of sectors as every device has them
pub record IsLawfulState (f : TaskFile) (b : Bus) (words sectors : ℕ) : Type 0 where
  pub registers : HasLawfulRegisters f b
  pub within : end_of f.phase ≤ sectors
  pub block : has_its_words f.phase words ≡ true
  pub pairs : HasTwoBytes f

-- a device as every one is
abbrev pub IsLawful : Device → Type 0
IsLawful d = IsLawfulState d.file d.bus (length d.block) d.sectors
