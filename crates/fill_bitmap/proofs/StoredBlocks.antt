-- The stored blocks of a disk, one by one.
use Rattle.std.proofs.Common.{◌≡◌, ℕ, ◌/◌, ◌<◌, Bool, true, false, if◌then◌else◌, List, length, map, arith, ap, ◌∙◌, inl, inr}
use Rattle.std.specs.List.{range_with_len}
use Rattle.std.specs.Str.{bytes_eq}
use Rattle.std.proofs.lemmas.Bool.{cases_lt, cond_both}
use Rattle.std.proofs.lemmas.List.{get_or_past, length-replicate}
use Rattle.std.proofs.lemmas.List.FromFn.{fill_by_all, get_or-map-range_with_len, length-map-range_with_len}
use Rattle.fill_bitmap.specs.declared.area.Area.{Area}
use Rattle.fill_bitmap.specs.Area.{blocks_of, bitmap_sectors_of, reserved_of}
use Rattle.fill_bitmap.specs.Bits.{has_bit}
use Rattle.fill_bitmap.specs.BlockSet.{has, empty_set}
use Rattle.fill_bitmap.specs.Disk.{sector_at, header_of, HasHeader, has_header, bitmap_sector, says_stored, stored_blocks}
use Rattle.fill_bitmap.proofs.Disks.{has_header-true}

-- a block has its bit in one of the bitmap's sectors
pub sector_of_block : (area : Area) (b : ℕ) → b < blocks_of area → b / 4096 < bitmap_sectors_of area
sector_of_block area b inside = omega arith

-- the stored blocks of a disk with the header are those whose bits are set
pub stored_block : (area : Area) (id : ℕ) (disk : List (List ℕ)) (b : ℕ) → HasHeader area id disk → b < blocks_of area
    → has (stored_blocks area id disk) b ≡ says_stored area disk b
stored_block area id disk b header inside =
    rw (has_header-true area id disk header) (get_or-map-range_with_len (says_stored area disk) 0
    (blocks_of area) b b false inside (omega arith))

-- a set has no block past its last
pub held_inside : (set : List Bool) (b : ℕ) → has set b ≡ true → b < length set
held_inside set b held = elim (cases_lt b (length set)) [
  | inl inside ↦ inside
  | inr past ↦ let none = get_or_past set b false past in absurd (cc)
]

-- the set of the stored blocks has a place for each block of the image
pub length-stored_blocks : (area : Area) (id : ℕ) (disk : List (List ℕ))
    → length (stored_blocks area id disk) ≡ blocks_of area
length-stored_blocks area id disk =
    cond_both (has_header area id disk) (map (says_stored area disk) (range_with_len 0 (blocks_of area)))
    (empty_set (blocks_of area))
    (λ (set : List Bool). length set ≡ blocks_of area)
    (λ yes. length-map-range_with_len (says_stored area disk) 0 (blocks_of area))
    (λ no. length-replicate (blocks_of area) false)

-- a stored block is one of the image
pub stored_inside : (area : Area) (id : ℕ) (disk : List (List ℕ)) (b : ℕ) → has (stored_blocks area id disk) b ≡ true
    → b < blocks_of area
stored_inside area id disk b held =
    let inside = held_inside (stored_blocks area id disk) b held in
    omega (arith, length-stored_blocks area id disk)

-- disks with the same header and bitmap have the same stored blocks
pub same_stored : (area : Area) (id : ℕ) (one other : List (List ℕ))
    → sector_at (reserved_of area) one ≡ sector_at (reserved_of area) other
    → ((k : ℕ) → k < bitmap_sectors_of area → bitmap_sector area one k ≡ bitmap_sector area other k)
    → stored_blocks area id one ≡ stored_blocks area id other
same_stored area id one other header bits =
    let n : ℕ = blocks_of area in
    let said : List Bool = map (says_stored area one) (range_with_len 0 n) in
    let same : said ≡ map (says_stored area other) (range_with_len 0 n) =
    fill_by_all (says_stored area other) said n false (length-map-range_with_len (says_stored area one) 0 n)
    (λ b inside. get_or-map-range_with_len (says_stored area one) 0 n b b false inside (omega arith)
    ∙ ap (λ bytes. has_bit bytes b) (bits (b / 4096) (sector_of_block area b inside))) in
    ap (λ bytes. if bytes_eq bytes (header_of area id) then said else empty_set n) header
    ∙ ap (λ set. if has_header area id other then set else empty_set n) same
