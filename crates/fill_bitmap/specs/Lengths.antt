-- The lengths of image and disk in bytes, and why they are refused.
use Rattle.std.specs.Prelude.{ℕ, ◌*◌, ◌/◌, ◌%◌, if◌then◌else◌, nat_lt, Option, Some, None}
use Rattle.fill_bitmap.specs.declared.area.Area.{Area}
use Rattle.fill_bitmap.specs.declared.area.TheConstants.{MOST_SECTORS}
use Rattle.fill_bitmap.specs.declared.lengths.TheConstants.{SECTOR_BYTES}
use Rattle.fill_bitmap.specs.declared.lengths.Unsuitable.{Unsuitable}
use Rattle.fill_bitmap.specs.declared.lengths.Unsuitable.TheVariants.{ImageLength, DiskLength, TooSmall, TooLarge}
use Rattle.fill_bitmap.specs.Area.{sectors_needed}

-- the area of an image and a disk of so many bytes, in blocks of so many sectors (own)
abbrev pub area_on : ℕ → ℕ → ℕ → Area
area_on image disk block =
    record { sectors = disk / SECTOR_BYTES; image = image / SECTOR_BYTES; block = block }

-- why an area is refused: the disk has too few sectors, or too many (own)
abbrev pub misfit_of : Area → Option Unsuitable
misfit_of area =
    if nat_lt area.sectors (sectors_needed area) then Some TooSmall else
    if nat_lt MOST_SECTORS area.sectors then Some TooLarge else
    None

-- why an image and a disk of so many bytes are refused: the first that holds (own)
abbrev pub refusal_of : ℕ → ℕ → ℕ → Option Unsuitable
refusal_of image disk block =
    if nat_lt 0 (image % (SECTOR_BYTES * block)) then Some ImageLength else
    if nat_lt 0 (disk % SECTOR_BYTES) then Some DiskLength else
    misfit_of (area_on image disk block)
