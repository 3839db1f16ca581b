-- What the sectors of a disk say.
use Rattle.std.proofs.Common.{◌≡◌, ℕ, zero, suc, ◌==◌, ◌||◌, ◌+◌, ◌-◌, ◌*◌, ◌/◌, ◌<◌, ◌≤◌, Bool, true, false, ◌&&◌, nat_lt, List, [], ◌++◌, length, map, take, drop, get_or, arith, refl, sym, ap, inl, inr, ◌∙◌}
use Rattle.std.specs.Int.{div_ceil}
use Rattle.std.specs.List.{range_with_len}
use Rattle.std.proofs.Math.Bool.{or-false}
use Rattle.std.proofs.lemmas.Bool.{cases_lt, lt-ltb, le-ltb, eq-eqb, ne_eqb, false_from_ne_true}
use Rattle.std.proofs.lemmas.List.{get_or_append_left, get_or-append_right, get_or-drop, get_or-take, get_or-replicate, get_or_past, length-append, length-drop, length-take, length-replicate}
use Rattle.std.proofs.lemmas.List.FromFn.{fill_by_all}
use Rattle.std.proofs.lemmas.Slice.Eq.{bytes_eq-Decides}
use Rattle.fill_bitmap.specs.declared.area.Area.{Area}
use Rattle.fill_bitmap.specs.Area.{IsSuitable, blocks_of, bitmap_sectors_of, reserved_of}
use Rattle.fill_bitmap.specs.Bits.{has_bit}
use Rattle.fill_bitmap.specs.BlockSet.{has, empty_set}
use Rattle.fill_bitmap.specs.Disk.{sector_at, header_of, HasHeader, has_header, bitmap_sector, says_stored, stored_blocks, sector_seen, guest_view, HoldsSet, HaveLengths, with_sectors}
use Rattle.fill_bitmap.proofs.Sectors.{length-with_sector, has-with_sector}
use Rattle.fill_bitmap.proofs.Bytes.{bit_written}

-- a set of none of the blocks has none
pub has-empty_set : (n b : ℕ) → has (empty_set n) b ≡ false
has-empty_set n b = elim (cases_lt b n) [
  | inl inside ↦ get_or-replicate n b false false inside
  | inr past ↦ get_or_past (empty_set n) b false (omega (arith, length-replicate n false))
]

-- what the bitmap says of a block, where a set was written
written_bit : (area : Area) (id : ℕ) (set : List Bool) (disk : List (List ℕ)) → HoldsSet area id set disk
    → (b : ℕ) → b < blocks_of area → has set b ≡ says_stored area disk b
written_bit area id set disk holds b inside =
    let sector = holds.bitmap (b / 4096) (omega arith) in
    sym (ap (λ bytes. has_bit bytes b) sector ∙ bit_written (b / 4096) b set refl)

-- a disk with the header passes the test for it
pub has_header-true : (area : Area) (id : ℕ) (disk : List (List ℕ)) → HasHeader area id disk
    → has_header area id disk ≡ true
has_header-true area id disk header = (bytes_eq-Decides (sector_at (reserved_of area) disk) (header_of area id)).1
    header

-- where a set was written, it is stored
pub stored_set : (area : Area) (id : ℕ) (set : List Bool) (disk : List (List ℕ)) → HoldsSet area id set disk
    → stored_blocks area id disk ≡ set
stored_set area id set disk holds =
    rw (has_header-true area id disk holds.header)
    (sym (fill_by_all (says_stored area disk) set (blocks_of area) false holds.blocks
    (written_bit area id set disk holds)))

-- the blocks of one sector more, in which a block has the bit y
one_more : (k b : ℕ) (x y : Bool) → (b / 4096 ≡ k → y ≡ x)
    → ((nat_lt b (k * 4096) && x) || ((b / 4096 == k) && y)) ≡ (nat_lt b (suc k * 4096) && x)
one_more k b x y same = elim (cases_lt b (k * 4096)) [
  | inl low ↦ rw (
    lt-ltb b (k * 4096) low,
    ne_eqb (b / 4096) k (λ e. omega arith),
    lt-ltb b (suc k * 4096)
        (omega arith),
  ) (or-false x)
  | inr high ↦ elim (cases_lt b (suc k * 4096)) [
    | inl here ↦
        let is : b / 4096 ≡ k = omega arith in
        rw (le-ltb b (k * 4096) high, eq-eqb (b / 4096) k is, lt-ltb b (suc k * 4096) here) (same is)
    | inr past ↦ rw (le-ltb b (k * 4096) high, ne_eqb (b / 4096) k (λ e. omega arith), le-ltb b (suc k * 4096) past)
        refl
  ]
]

length-with_sectors : (k : ℕ) (area : Area) (disk : List (List ℕ)) (set : List Bool)
    → length (with_sectors k area disk set) ≡ length set
length-with_sectors zero area disk set = refl
length-with_sectors (suc k) area disk set =
    length-with_sector k (bitmap_sector area disk k) (with_sectors k area disk set)
    ∙ length-with_sectors k area disk set

-- what a set of no block has, once the bits of the first so many sectors of the bitmap are added
has-with_sectors : (k : ℕ) (area : Area) (disk : List (List ℕ)) (n b : ℕ) → b < n
    → has (with_sectors k area disk (empty_set n)) b ≡ (nat_lt b (k * 4096) && says_stored area disk b)
has-with_sectors zero area disk n b inside =
    has-empty_set n b ∙ sym (ap (λ test. test && says_stored area disk b) (le-ltb b 0 (omega arith)))
has-with_sectors (suc k) area disk n b inside =
    let before = has-with_sectors k area disk n b inside in
    has-with_sector k (bitmap_sector area disk k) (with_sectors k area disk (empty_set n)) b
    (omega (arith, length-with_sectors k area disk (empty_set n), length-replicate n false))
    ∙ ap (λ held. held || ((b / 4096 == k) && has_bit (bitmap_sector area disk k) b)) before
    ∙ one_more k b (says_stored area disk b) (has_bit (bitmap_sector area disk k) b)
    (λ e. ap (λ i. has_bit (bitmap_sector area disk i) b) (sym e))

-- the sectors of the bitmap are enough for each block
all_sectors : (n b : ℕ) → b < n → nat_lt b (div_ceil n 4096 * 4096) ≡ true
all_sectors n b inside = lt-ltb b (div_ceil n 4096 * 4096) (omega arith)

-- all sectors of the bitmap give the stored blocks
pub added_all : (area : Area) (id : ℕ) (disk : List (List ℕ)) → HasHeader area id disk
    → with_sectors (bitmap_sectors_of area) area disk (empty_set (blocks_of area)) ≡ stored_blocks area id disk
added_all area id disk header =
    rw (has_header-true area id disk header)
    (fill_by_all (says_stored area disk) (with_sectors (bitmap_sectors_of area) area disk (empty_set (blocks_of area)))
    (blocks_of area) false
    (length-with_sectors (bitmap_sectors_of area) area disk (empty_set (blocks_of area))
    ∙ length-replicate (blocks_of area) false)
    (λ b inside. has-with_sectors (bitmap_sectors_of area) area disk (blocks_of area) b inside
    ∙ ap (λ test. test && says_stored area disk b) (all_sectors (blocks_of area) b inside)))

-- without the header no block is stored
pub none_stored : (area : Area) (id : ℕ) (disk : List (List ℕ)) → (HasHeader area id disk → ⊥)
    → stored_blocks area id disk ≡ empty_set (blocks_of area)
none_stored area id disk none =
    let test : has_header area id disk ≡ false
    = false_from_ne_true (has_header area id disk)
    (λ h. none ((bytes_eq-Decides (sector_at (reserved_of area) disk) (header_of area id)).0 h)) in
    rw test refl

-- the reserved sectors stand behind the image and end with the disk
bounds : (area : Area) → IsSuitable area → (area.image ≤ reserved_of area) × (reserved_of area ≤ area.sectors)
bounds area suitable = grind arith

-- where no block is on the disk, a sector of the image is the image's
seen_empty : (area : Area) (n : ℕ) (image disk : List (List ℕ)) (s : ℕ) → s < area.image
    → sector_seen area (empty_set n) image disk s ≡ get_or image s []
seen_empty area n image disk s inside = rw (has-empty_set n (s / area.block)) (rw (lt-ltb s area.image inside) refl)

-- a sector behind the image is the disk's
seen_behind : (area : Area) (set : List Bool) (image disk : List (List ℕ)) (s : ℕ) → area.image ≤ s
    → sector_seen area set image disk s ≡ get_or disk s []
seen_behind area set image disk s past = rw (le-ltb s area.image past) refl

joined : (a r n s : ℕ) (image disk : List (List ℕ)) (area : Area) → area.image ≡ a → length image ≡ a → s < r
    → get_or (image ++ drop a (take r disk)) s [] ≡ sector_seen area (empty_set n) image disk s
joined a r n s image disk area e long below = elim (cases_lt s a) [
  | inl inside ↦ get_or_append_left image (drop a (take r disk)) [] s (omega arith)
      ∙ sym (seen_empty area n image disk s (omega arith))
  | inr past ↦
      let place : a + (s - a) ≡ s = omega arith in
      get_or-append_right image (drop a (take r disk)) a s [] long past ∙ get_or-drop a (take r disk) (s - a) []
      ∙ ap (λ i. get_or (take r disk) i []) place ∙ get_or-take r disk s [] below
      ∙ sym (seen_behind area (empty_set n) image disk s (omega arith))
]

joined_length : (a r : ℕ) (image disk : List (List ℕ)) → length image ≡ a → a ≤ r → r ≤ length disk
    → length (image ++ drop a (take r disk)) ≡ r
joined_length a r image disk long behind within =
    omega (arith, length-append image (drop a (take r disk)), length-drop a (take r disk), length-take r disk)

-- without a stored block a guest reads the image's sectors, and behind it the disk's
pub fresh_view : (area : Area) (id : ℕ) (image disk : List (List ℕ)) → IsSuitable area → HaveLengths area image disk
    → (HasHeader area id disk → ⊥)
    → guest_view area id image disk ≡ image ++ drop area.image (take (reserved_of area) disk)
fresh_view area id image disk suitable long none =
    let (behind, within) = bounds area suitable in
    ap (λ set. map (sector_seen area set image disk) (range_with_len 0 (reserved_of area)))
    (none_stored area id disk none)
    ∙ sym (fill_by_all (sector_seen area (empty_set (blocks_of area)) image disk)
    (image ++ drop area.image (take (reserved_of area) disk)) (reserved_of area) []
    (joined_length area.image (reserved_of area) image disk long.image_sectors behind (omega arith))
    (λ s below. joined area.image (reserved_of area) (blocks_of area) s image disk area refl long.image_sectors below))
