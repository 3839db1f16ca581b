-- Ranges of sectors, and the blocks in which they lie.
use Rattle.std.proofs.Common.{◌≡◌, ℕ, ◌+◌, ◌-◌, ◌*◌, ◌/◌, ◌<◌, ◌≤◌, Bool, true, false, min, List, get_or, arith, inl, inr, ◌∙◌}
use Rattle.std.specs.List.{range_with_len}
use Rattle.std.proofs.Math.Nat.{le-div_iff_mul-le, div-mul-le_self, mul-div_cancel}
use Rattle.std.proofs.lemmas.Bool.{cases_lt, cases_Bool}
use Rattle.std.proofs.lemmas.Bool.Decides.{nat_tests}
use Rattle.std.proofs.lemmas.List.Elements.{All-from_get_or}
use Rattle.std.proofs.lemmas.List.Folds.{list_any_none, list_any_at}
use Rattle.std.proofs.lemmas.List.FromFn.{length-range_with_len, get_or-range_with_len}
use Rattle.fill_bitmap.specs.declared.area.Area.{Area}
use Rattle.fill_bitmap.specs.Area.{IsBlock, block_at}
use Rattle.fill_bitmap.specs.BlockSet.{has}
use Rattle.fill_bitmap.specs.Disk.{is_empty_at}
use Rattle.io_interpret.specs.Blocks.{touches_empty}

-- a range none of whose sectors lies in an empty block touches none
pub none_touched : (area : Area) (filled : List Bool) (first count : ℕ)
    → ((s : ℕ) → first ≤ s → s < first + count → is_empty_at area filled s ≡ false)
    → touches_empty area filled first count ≡ false
none_touched area filled first count none =
    let sectors : List ℕ = range_with_len first count in
    list_any_none (is_empty_at area filled) sectors
    (All-from_get_or (λ s. is_empty_at area filled s ≡ false) sectors 0
    (λ i inside. let within : i < count = omega (arith, length-range_with_len first count) in
    rw (get_or-range_with_len first count i 0 within) (none (first + i) (omega arith) (omega arith))))

-- a range one of whose sectors lies in an empty block touches one
pub one_touched : (area : Area) (filled : List Bool) (first count s : ℕ) → first ≤ s → s < first + count
    → is_empty_at area filled s ≡ true → touches_empty area filled first count ≡ true
one_touched area filled first count s from before empty =
    let place : s - first < count = omega arith in
    let there : first + (s - first) ≡ s = omega arith in
    let at : get_or (range_with_len first count) (s - first) 0 ≡ s = get_or-range_with_len first count
    (s - first) 0 place ∙ there in
    list_any_at (is_empty_at area filled) (range_with_len first count) (s - first) 0
    (omega (arith, length-range_with_len first count)) (rw at empty)

-- no sector of a range that touches no empty block lies in one
pub none_empty : (area : Area) (filled : List Bool) (first count : ℕ) → touches_empty area filled first count ≡ false
    → (s : ℕ) → first ≤ s → s < first + count → is_empty_at area filled s ≡ false
none_empty area filled first count untouched s from before = elim (cases_Bool (is_empty_at area filled s)) [
  | inl empty ↦ let touched = one_touched area filled first count s from before empty in cc
  | inr other ↦ other
]

-- a sector past the image lies in no empty block
empty_past : (area : Area) (filled : List Bool) (s : ℕ) → area.image ≤ s → is_empty_at area filled s ≡ false
empty_past area filled s past = grind (arith, nat_tests)

-- a sector in a filled block lies in no empty one
filled_at : (area : Area) (filled : List Bool) (s : ℕ) → has filled (block_at area s) ≡ true
    → is_empty_at area filled s ≡ false
filled_at area filled s held = grind (arith, nat_tests)

-- a sector of the image in a block that isn't filled lies in an empty one
empty_at : (area : Area) (filled : List Bool) (s : ℕ) → s < area.image → has filled (block_at area s) ≡ false
    → is_empty_at area filled s ≡ true
empty_at area filled s inside lacks = grind (arith, nat_tests)

-- a range without a sector of the image touches no empty block
pub touched_past : (area : Area) (filled : List Bool) (first count : ℕ) → min area.image (first + count) ≤ first
    → touches_empty area filled first count ≡ false
touched_past area filled first count past =
    none_touched area filled first count (λ s from before. empty_past area filled s (omega arith))

-- a block has a sector
pub some_sectors : (block : ℕ) → IsBlock block → 0 < block
some_sectors block sizes = omega arith

div_le : (m n k : ℕ) → 0 < k → m ≤ n → m / k ≤ n / k
div_le m n k some le = (le-div_iff_mul-le some).1 (let part = div-mul-le_self m k in omega arith)

-- a range touches no empty block where those of its sectors of the image are filled
pub all_filled : (area : Area) (filled : List Bool) (first count end : ℕ) → 0 < area.block
    → end ≡ min area.image (first + count)
    → ((b : ℕ) → first / area.block ≤ b → b ≤ (end - 1) / area.block → has filled b ≡ true)
    → touches_empty area filled first count ≡ false
all_filled area filled first count end some ends held =
    none_touched area filled first count (λ s from before. elim (cases_lt s area.image) [
      | inr past ↦ empty_past area filled s past
      | inl inside ↦
          let last : s ≤ end - 1 = omega arith in
          filled_at area filled s (held (s / area.block) (div_le first s area.block some from)
          (div_le s (end - 1) area.block some last))
    ])

-- a range touches an empty block where one of those of its sectors of the image isn't filled
pub one_empty : (area : Area) (filled : List Bool) (first count end b : ℕ) → 0 < area.block
    → end ≡ min area.image (first + count)
    → first < end
    → first / area.block ≤ b → b ≤ (end - 1) / area.block → has filled b ≡ false
    → touches_empty area filled first count ≡ true
one_empty area filled first count end b some ends any low high lacks =
    let within : b * area.block ≤ end - 1 = (le-div_iff_mul-le some).0 high in
    elim (cases_lt (b * area.block) first) [
      | inl below ↦
          let same : first / area.block ≡ b =
          (let up : b ≤ first / area.block = (le-div_iff_mul-le some).1 (omega arith) in omega arith) in
          one_touched area filled first count first (omega arith) (omega arith)
          (empty_at area filled first (omega arith) (rw same lacks))
      | inr above ↦
          let same : b * area.block / area.block ≡ b = mul-div_cancel b some in
          one_touched area filled first count (b * area.block) above (omega arith)
          (empty_at area filled (b * area.block) (omega arith) (rw same lacks))
    ]
