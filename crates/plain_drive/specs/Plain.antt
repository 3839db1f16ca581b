-- The state of a plain drive, the values of its cells, and bytes as words and as sectors.
use Rattle.std.specs.Prelude.{ℕ, ◌+◌, ◌*◌, zero, suc, List, [], ◌∷◌, map, take, drop, ◌++◌, slice_index_or}
use Rattle.ata_taskfile.specs.declared.registers.TheConstants.{SECTOR_BYTES}
use Rattle.ata_taskfile.specs.declared.task_file.TaskFile.{TaskFile}
use Rattle.ata_taskfile.specs.Device.{Device, Cell, with_file}

-- a drive as its guest knows it: the device, and the guest's memory that its bus master reaches
pub record Plain : Type 0 where
  pub device : Device
  pub memory : List ℕ

-- a drive with this memory
abbrev pub plain : Device → List ℕ → Plain
plain device memory = record { device = device; memory = memory }

-- the same drive with other registers
abbrev pub with_registers : TaskFile → Plain → Plain
with_registers f p = record p { device = with_file f p.device }

-- the same drive with other words in the block
abbrev pub with_block : List ℕ → Plain → Plain
with_block block p = record p { device = record p.device { block = block } }

-- the same drive with other cells
abbrev pub with_cells : List Cell → Plain → Plain
with_cells cells p = record p { device = record p.device { cells = cells } }

-- the value of a cell that a read gives: the newest (own: the disk model)
abbrev pub current : Cell → List ℕ
current c = slice_index_or c.written 0 c.durable

-- every value that a cell holds, the newest first
abbrev pub values : Cell → List (List ℕ)
values c = c.written ++ c.durable ∷ []

-- a cell of one durable value
abbrev pub settled : List ℕ → Cell
settled value = record { durable = value; written = [] }

-- a store of durable values alone
abbrev pub stored : List (List ℕ) → List Cell
stored values = map settled values

-- a cell after a write: the value is its newest (own: the disk model)
abbrev pub written_to : List ℕ → Cell → Cell
written_to value c = record c { written = value ∷ c.written }

-- a store after a write to a sector
abbrev pub appended : ℕ → List ℕ → List Cell → List Cell
appended s value [] = []
appended zero value (cell ∷ cells) = written_to value cell ∷ cells
appended (suc s) value (cell ∷ cells) = cell ∷ appended s value cells

-- a cell after a flush: its current value alone, which is durable (ATA/ATAPI-6, FLUSH CACHE)
abbrev pub flushed : Cell → Cell
flushed c = settled (current c)

-- a store after a flush
abbrev pub all_flushed : List Cell → List Cell
all_flushed cells = map flushed cells

-- the current value of a sector
abbrev pub sector_value : ℕ → Device → List ℕ
sector_value s d = current (slice_index_or d.cells s (settled []))

-- bytes in words of 16 bits, the even byte low (ATA/ATAPI-6, Data register)
abbrev pub words_of : List ℕ → List ℕ
words_of [] = []
words_of (low ∷ []) = []
words_of (low ∷ high ∷ rest) = (low + 256 * high) ∷ words_of rest

-- so many sectors, one after the other
abbrev pub sectors_in : ℕ → List ℕ → List (List ℕ)
sectors_in zero bytes = []
sectors_in (suc n) bytes = take SECTOR_BYTES bytes ∷ sectors_in n (drop SECTOR_BYTES bytes)
