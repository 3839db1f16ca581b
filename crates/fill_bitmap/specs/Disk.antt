-- What the sectors of a disk say: the header, the stored blocks, and what a guest reads.
use Rattle.std.specs.Prelude.{ℕ, zero, suc, ◌≡◌, ◌<◌, Bool, not, ◌&&◌, if◌then◌else◌, nat_lt, List, [], ◌++◌, length, map, replicate, slice_index_or, codes}
use Rattle.std.specs.Int.{w32, w64, to_be_bytes}
use Rattle.std.specs.List.{range_with_len}
use Rattle.std.specs.Str.{bytes_eq}
use Rattle.fill_bitmap.specs.declared.area.Area.{Area}
use Rattle.fill_bitmap.specs.Area.{block_at, blocks_of, bitmap_sectors_of, reserved_of, sector_of_bits}
use Rattle.fill_bitmap.specs.Bits.{has_bit, sector_of, sector_with_bit}
use Rattle.fill_bitmap.specs.BlockSet.{has, empty_set, with_sector}

-- sector `s` of a list of sectors
abbrev pub sector_at : ℕ → List (List ℕ) → List ℕ
sector_at s sectors = slice_index_or sectors s []

-- a run's header: BMCFILL1, then its number, the image's sectors and a block's sectors with the high byte first, then
-- zeros, 484 of them (own)
unfoldable pub header_of : Area → ℕ → List ℕ
header_of area id =
    codes "BMCFILL1" ++ to_be_bytes w64 id ++ to_be_bytes w64 area.image
    ++ to_be_bytes w32 area.block ++ replicate 484 0

-- the first reserved sector of a disk is the run's header (own)
abbrev pub HasHeader : Area → ℕ → List (List ℕ) → Type 0
HasHeader area id disk = sector_at (reserved_of area) disk ≡ header_of area id

-- whether the first reserved sector of a disk is the run's header
abbrev pub has_header : Area → ℕ → List (List ℕ) → Bool
has_header area id disk = bytes_eq (sector_at (reserved_of area) disk) (header_of area id)

-- sector `k` of the bitmap on a disk
abbrev pub bitmap_sector : Area → List (List ℕ) → ℕ → List ℕ
bitmap_sector area disk k = sector_at (sector_of_bits area k) disk

-- whether the bitmap on a disk has the bit of block `b` set
abbrev pub says_stored : Area → List (List ℕ) → ℕ → Bool
says_stored area disk b = has_bit (bitmap_sector area disk (sector_with_bit b)) b

-- the stored blocks of a disk: those whose bit is set, and none where the header isn't the run's (own)
abbrev pub stored_blocks : Area → ℕ → List (List ℕ) → List Bool
stored_blocks area id disk =
    if has_header area id disk then map (says_stored area disk) (range_with_len 0 (blocks_of area))
    else empty_set (blocks_of area)

-- a set to which the first so many sectors of a disk's bitmap were added, in order (own)
abbrev pub with_sectors : ℕ → Area → List (List ℕ) → List Bool → List Bool
with_sectors zero area disk set = set
with_sectors (suc k) area disk set =
    with_sector k (bitmap_sector area disk k) (with_sectors k area disk set)

-- a sector lies in an empty block: it is one of the image's, and the set lacks its block (own)
abbrev pub is_empty_at : Area → List Bool → ℕ → Bool
is_empty_at area set s = nat_lt s area.image && not (has set (block_at area s))

-- what a guest reads at sector `s` where these blocks are on the disk: the image's sector in an empty one (own)
abbrev pub sector_seen : Area → List Bool → List (List ℕ) → List (List ℕ) → ℕ → List ℕ
sector_seen area set image disk s =
    if is_empty_at area set s then sector_at s image else sector_at s disk

-- what a guest finds on a disk after a power cut: every sector below the reserved ones, by the stored blocks (own)
abbrev pub guest_view : Area → ℕ → List (List ℕ) → List (List ℕ) → List (List ℕ)
guest_view area id image disk =
    map (sector_seen area (stored_blocks area id disk) image disk)
    (range_with_len 0 (reserved_of area))

-- a disk on which a settling has written a set of blocks: the header, and each sector of the bitmap (own)
pub record HoldsSet (area : Area) (id : ℕ) (set : List Bool) (disk : List (List ℕ)) : Type 0 where
  pub blocks : length set ≡ blocks_of area
  pub header : HasHeader area id disk
  pub bitmap : (k : ℕ) → k < bitmap_sectors_of area → bitmap_sector area disk k ≡ sector_of k set

-- an image and a disk as long as the area says
pub record HaveLengths (area : Area) (image disk : List (List ℕ)) : Type 0 where
  pub image_sectors : length image ≡ area.image
  pub disk_sectors : length disk ≡ area.sectors
