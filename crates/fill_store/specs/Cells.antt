-- What the monitor's own commands make of the drive's sectors, and what a power cut may leave of these.
use Rattle.std.specs.Prelude.{ℕ, ◌≡◌, ◌<◌, ◌+◌, ◌⊎◌, Bool, true, false, Option, Some, None, List, length}
use Rattle.ata_taskfile.specs.Device.{Cell}
use Rattle.plain_drive.specs.Plain.{appended, all_flushed}
use Rattle.plain_drive.specs.Cells.{value_at, Each}
use Rattle.own_pio.specs.declared.job.OwnJob.{OwnJob}
use Rattle.own_pio.specs.declared.job.OwnJob.TheVariants.{Read, Write, Flush}
use Rattle.fill_bitmap.specs.declared.area.Area.{Area}
use Rattle.fill_bitmap.specs.Area.{blocks_of, bitmap_sectors_of, reserved_of, sector_of_bits}
use Rattle.fill_bitmap.specs.Bits.{has_bit, sector_with_bit}
use Rattle.fill_bitmap.specs.BlockSet.{has}
use Rattle.fill_bitmap.specs.Disk.{header_of}

-- the newest values of the bitmap's first so many sectors are these bytes
abbrev pub HasBits : ℕ → (ℕ → List ℕ) → Area → List Cell → Type 0
HasBits n bytes area cells = (k : ℕ) → k < n → value_at (sector_of_bits area k) cells ≡ bytes k

-- the reserved sectors are the last of the drive: header, bitmap and dummy sector (own)
abbrev pub HasReserved : Area → List Cell → Type 0
HasReserved area cells = reserved_of area + (bitmap_sectors_of area + 2) ≡ length cells

-- what a job of one sector made of a store, once it was done; its bytes are those that were read or written
-- (own: the disk model)
abbrev pub IsSectorDone : OwnJob → List ℕ → List Cell → List Cell → Type 0
IsSectorDone (Read s count) bytes old new = (bytes ≡ value_at s old) × (new ≡ old)
IsSectorDone (Write s count) bytes old new = new ≡ appended s bytes old
IsSectorDone Flush bytes old new = new ≡ all_flushed old

-- what a job made of a store: all of it where it was done, and all of it or nothing where it failed or goes on
-- (own: the disk model)
abbrev pub Made : Bool → OwnJob → List ℕ → List Cell → List Cell → Type 0
Made true job bytes old new = IsSectorDone job bytes old new
Made false job bytes old new = (new ≡ old) ⊎ IsSectorDone job bytes old new

-- what a job made of a store, or no job, which leaves it
abbrev pub MadeBy : Bool → Option OwnJob → List ℕ → List Cell → List Cell → Type 0
MadeBy ok None bytes old new = new ≡ old
MadeBy ok (Some job) bytes old new = Made ok job bytes old new

-- bytes of the bitmap's sector `k` whose bits have each block of one set, and no block that another lacks
pub record HasBitsBetween (area : Area) (k : ℕ) (least most : List Bool)
    (bytes : List ℕ) : Type 0 where
  pub least_set : (b : ℕ) → sector_with_bit b ≡ k → has least b ≡ true → has_bit bytes b ≡ true
  pub set_most : (b : ℕ) → b < blocks_of area → sector_with_bit b ≡ k → has_bit bytes b ≡ true
      → has most b ≡ true

-- whatever a cut leaves of header and bitmap, the blocks of one set are stored, and no block that
-- another lacks (own)
pub record KeepsBits (area : Area) (id : ℕ) (least most : List Bool)
    (cells : List Cell) : Type 0 where
  pub reserved : HasReserved area cells
  pub blocks : length least ≡ blocks_of area
  pub header : Each (λ value. value ≡ header_of area id) (reserved_of area) cells
  pub bits : (k : ℕ) → k < bitmap_sectors_of area
      → Each (HasBitsBetween area k least most) (sector_of_bits area k) cells
