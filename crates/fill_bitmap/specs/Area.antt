-- An image on a disk: its blocks, its reserved sectors, and when it is suitable.
use Rattle.std.specs.Prelude.{ℕ, ◌≡◌, ◌≤◌, ◌+◌, ◌-◌, ◌/◌, ◌%◌, ◌⊎◌, ◌==◌, if◌then◌else◌}
use Rattle.std.specs.Int.{div_ceil}
use Rattle.fill_bitmap.specs.declared.area.Area.{Area}
use Rattle.fill_bitmap.specs.declared.area.TheConstants.{BLOCKS_OF_SECTOR, MOST_SECTORS}

-- a block has 8, 16, 32 or 64 sectors (own)
abbrev pub IsBlock : ℕ → Type 0
IsBlock block = (block ≡ 8) ⊎ (block ≡ 16) ⊎ (block ≡ 32) ⊎ (block ≡ 64)

-- the blocks of the image (own)
abbrev pub blocks_of : Area → ℕ
blocks_of area = area.image / area.block

-- the block in which a sector of the image lies (own)
abbrev pub block_at : Area → ℕ → ℕ
block_at area s = s / area.block

-- the sectors that hold a bit for each of so many blocks: rounded up (own)
abbrev pub sectors_for : ℕ → ℕ
sectors_for blocks = div_ceil blocks BLOCKS_OF_SECTOR

-- the sectors of the bitmap, which has a bit for each block of the image
abbrev pub bitmap_sectors_of : Area → ℕ
bitmap_sectors_of area = sectors_for (blocks_of area)

-- the first reserved sector: behind it lie bitmap and dummy sector; an empty image reserves none (own)
abbrev pub reserved_of : Area → ℕ
reserved_of area =
    if area.image == 0 then area.sectors else area.sectors - (bitmap_sectors_of area + 2)

-- where sector `k` of the bitmap stands: behind the header (own)
abbrev pub sector_of_bits : Area → ℕ → ℕ
sector_of_bits area k = reserved_of area + 1 + k

-- the fewest sectors of a disk: one, or the image's with header, bitmap and dummy sector (own)
abbrev pub sectors_needed : Area → ℕ
sectors_needed area =
    if area.image == 0 then 1 else area.image + bitmap_sectors_of area + 2

-- whole blocks, and a disk that is neither too small nor too large (own)
pub record IsSuitable (area : Area) : Type 0 where
  pub blocked : IsBlock area.block
  pub whole : area.image % area.block ≡ 0
  pub large_enough : sectors_needed area ≤ area.sectors
  pub small_enough : area.sectors ≤ MOST_SECTORS
