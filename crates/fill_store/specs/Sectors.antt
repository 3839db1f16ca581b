-- The sectors of the monitor's own commands, and the buffer of their bytes.
use Rattle.std.specs.Prelude.{ℕ, ◌≡◌, ◌<◌, ◌≤◌, ◌+◌, Option, Some, None, List, ◌++◌, drop, replicate}
use Rattle.fill_bitmap.specs.declared.area.Area.{Area}
use Rattle.fill_bitmap.specs.declared.lengths.TheConstants.{SECTOR_BYTES}
use Rattle.fill_bitmap.specs.Area.{bitmap_sectors_of, reserved_of}
use Rattle.own_pio.specs.declared.job.OwnJob.{OwnJob}
use Rattle.own_pio.specs.declared.job.OwnJob.TheVariants.{Read, Write, Flush}

-- the sector of a bitmap without a block (own)
unfoldable pub zero_bits : List ℕ
zero_bits = replicate SECTOR_BYTES 0

-- a sector of the disk that holds the header or a part of the bitmap
pub record IsKept (area : Area) (sector : ℕ) : Type 0 where
  pub first : reserved_of area ≤ sector
  pub last : sector ≤ reserved_of area + bitmap_sectors_of area
  pub on_disk : sector < area.sectors

-- a job reads or writes one sector, of the header or the bitmap, or flushes
abbrev pub IsOnKept : Area → OwnJob → Type 0
IsOnKept area (Read first count) = IsKept area first × (count ≡ 1)
IsOnKept area (Write first count) = IsKept area first × (count ≡ 1)
IsOnKept area Flush = Unit {0}

-- the buffer once the bytes of the next write, if that is next, stand at its front (own)
abbrev pub buffer_with : Option (List ℕ) → List ℕ → List ℕ
buffer_with None buffer = buffer
buffer_with (Some bytes) buffer = bytes ++ drop SECTOR_BYTES buffer
