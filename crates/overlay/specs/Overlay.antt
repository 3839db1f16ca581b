-- An image laid over a drive, and a plain drive that its guest believes to have: whose value each sector has, and what
-- a power cut leaves of it.
use Rattle.std.specs.Prelude.{ℕ, ◌≡◌, ◌<◌, Bool, true, false, if◌then◌else◌, List, length, Contains}
use Rattle.ata_taskfile.specs.Device.{Cell}
use Rattle.plain_drive.specs.Plain.{values}
use Rattle.plain_drive.specs.Cells.{cell_at, value_at, Each}
use Rattle.fill_bitmap.specs.declared.area.Area.{Area}
use Rattle.fill_bitmap.specs.Area.{reserved_of}
use Rattle.fill_bitmap.specs.Disk.{is_empty_at, sector_at}

-- the plain drive's newest values below the reserved sectors: the image's in an empty block, else the drive's (own)
abbrev pub HasValues : Area → List Bool → List (List ℕ) → List Cell → List Cell → Type 0
HasValues area filled image cells plain =
    (s : ℕ) → s < reserved_of area
    → value_at s plain ≡ (if is_empty_at area filled s then sector_at s image else value_at s cells)

-- whatever a cut leaves of the drive's sectors, where the blocks `stored` are stored then and no others than those of
-- `durable`, the guest finds values that the plain drive may have then (own)
pub record Survives (area : Area) (stored durable : List Bool) (image : List (List ℕ))
    (cells plain : List Cell) : Type 0 where
  pub count : length plain ≡ reserved_of area
  -- where the drive may be read, each of its values is one of the plain drive's
  pub kept : (s : ℕ) → s < reserved_of area → is_empty_at area durable s ≡ false
      → Each (λ value. Contains (values (cell_at s plain)) value) s cells
  -- where the image may be read, its sector is one
  pub old : (s : ℕ) → s < reserved_of area → is_empty_at area stored s ≡ true
      → Contains (values (cell_at s plain)) (sector_at s image)
