-- What stands on the drive while an opening goes on, and what a power cut may leave then.
use Rattle.std.specs.Prelude.{ℕ, ◌≡◌, ◌<◌, ◌⊎◌, List, Bool, take, unwrap_or}
use Rattle.ata_taskfile.specs.Device.{Cell}
use Rattle.fill_bitmap.specs.declared.area.Area.{Area}
use Rattle.fill_bitmap.specs.declared.lengths.TheConstants.{SECTOR_BYTES}
use Rattle.fill_bitmap.specs.Area.{blocks_of, bitmap_sectors_of, reserved_of, sector_of_bits}
use Rattle.fill_bitmap.specs.Bitmap.{Sets, these_sets}
use Rattle.fill_bitmap.specs.BlockSet.{empty_set}
use Rattle.fill_bitmap.specs.Disk.{header_of, HasHeader, sector_at, bitmap_sector, stored_blocks, with_sectors}
use Rattle.fill_store.specs.declared.opening.OpeningStep.{OpeningStep}
use Rattle.fill_store.specs.declared.opening.OpeningStep.TheVariants.{ReadHeader, ReadBits, WriteZeros, FlushZeros, WriteHeader, FlushHeader, Nothing}
use Rattle.fill_store.specs.Sectors.{zero_bits}
use Rattle.plain_drive.specs.Cells.{value_at, Each}
use Rattle.fill_store.specs.Cells.{HasBits, HasReserved, MadeBy, KeepsBits}
use Rattle.fill_store.specs.Opening.{OpeningState, next_in_opening, bytes_to_open}

-- one of two values: the old or the new
abbrev pub IsEither : List ℕ → List ℕ → List ℕ → Type 0
IsEither old new value = (value ≡ old) ⊎ (value ≡ new)

-- the same blocks in each set of a bitmap
abbrev pub alike : List Bool → Sets
alike set = these_sets set set set

-- whatever a cut in an opening leaves: sectors below the reserved ones as they were at power-on, the
-- header old or the run's, and each sector of the bitmap old or zeros (own)
pub record LeavesOldOrNew (area : Area) (id : ℕ) (disk : List (List ℕ))
    (cells : List Cell) : Type 0 where
  pub reserved : HasReserved area cells
  pub others : (s : ℕ) → s < reserved_of area → Each (λ value. value ≡ sector_at s disk) s cells
  pub header : Each (IsEither (sector_at (reserved_of area) disk) (header_of area id))
      (reserved_of area) cells
  pub bits : (k : ℕ) → k < bitmap_sectors_of area
      → Each (IsEither (bitmap_sector area disk k) zero_bits) (sector_of_bits area k) cells

-- the header is as it was at power-on
abbrev pub HasOldHeader : Area → List (List ℕ) → List Cell → Type 0
HasOldHeader area disk cells =
    Each (λ value. value ≡ sector_at (reserved_of area) disk) (reserved_of area) cells

-- the bitmap is as it was at power-on
abbrev pub HasOldBits : Area → List (List ℕ) → List Cell → Type 0
HasOldBits area disk cells =
    (k : ℕ) → k < bitmap_sectors_of area
    → Each (λ value. value ≡ bitmap_sector area disk k) (sector_of_bits area k) cells

-- zeros were written to the first so many sectors of the bitmap
abbrev pub HasZeros : ℕ → Area → List Cell → Type 0
HasZeros n area cells = HasBits n (λ k. zero_bits) area cells

-- whatever a cut leaves, the bitmap is zeros
abbrev pub HasOnlyZeros : Area → List Cell → Type 0
HasOnlyZeros area cells =
    (k : ℕ) → k < bitmap_sectors_of area
    → Each (λ value. value ≡ zero_bits) (sector_of_bits area k) cells

-- what holds of the drive's sectors at each step, where they were `disk` at power-on (own)
abbrev pub CellsAt : Area → ℕ → List (List ℕ) → OpeningStep → List Cell → Type 0
CellsAt area id disk ReadHeader cells = HasOldHeader area disk cells × HasOldBits area disk cells
CellsAt area id disk (ReadBits k) cells = HasHeader area id disk × HasOldBits area disk cells
CellsAt area id disk (WriteZeros k) cells =
    (¬ HasHeader area id disk) × HasOldHeader area disk cells × HasZeros k area cells
CellsAt area id disk FlushZeros cells =
    (¬ HasHeader area id disk) × HasOldHeader area disk cells
    × HasZeros (bitmap_sectors_of area) area cells
CellsAt area id disk WriteHeader cells = (¬ HasHeader area id disk) × HasOnlyZeros area cells
CellsAt area id disk FlushHeader cells =
    (¬ HasHeader area id disk) × HasOnlyZeros area cells
    × (value_at (reserved_of area) cells ≡ header_of area id)
CellsAt area id disk Nothing cells =
    KeepsBits area id (stored_blocks area id disk) (stored_blocks area id disk) cells

-- the blocks in each set of the bitmap at each step: those that were read so far, at the end the stored
-- ones (own)
abbrev pub blocks_at : Area → ℕ → List (List ℕ) → OpeningStep → List Bool
blocks_at area id disk ReadHeader = empty_set (blocks_of area)
blocks_at area id disk (ReadBits k) = with_sectors k area disk (empty_set (blocks_of area))
blocks_at area id disk (WriteZeros k) = empty_set (blocks_of area)
blocks_at area id disk FlushZeros = empty_set (blocks_of area)
blocks_at area id disk WriteHeader = empty_set (blocks_of area)
blocks_at area id disk FlushHeader = empty_set (blocks_of area)
blocks_at area id disk Nothing = stored_blocks area id disk

-- an opening whose drive had the sectors `disk` at power-on, with the bitmap and the drive's sectors as
-- they are (own)
pub record Opens (disk : List (List ℕ)) (o : OpeningState) (sets : Sets)
    (cells : List Cell) : Type 0 where
  pub bitmap : sets ≡ alike (blocks_at o.area o.id disk o.step)
  pub sectors : LeavesOldOrNew o.area o.id disk cells
  pub step : CellsAt o.area o.id disk o.step cells

-- what an opening's job, which ended well or not, made of the drive's sectors; the buffer begins with
-- what it read (own)
abbrev pub MadeByOpening : Bool → OpeningState → List ℕ → List Cell → List Cell → Type 0
MadeByOpening ok o buffer old new =
    MadeBy ok (next_in_opening o) (unwrap_or (bytes_to_open o) (take SECTOR_BYTES buffer)) old new
