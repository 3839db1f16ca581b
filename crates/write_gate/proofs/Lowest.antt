-- The lowest empty block that a range touches, by the range's first sector in an empty block.
use Rattle.std.proofs.Common.{◌≡◌, ◌≢◌, ℕ, ◌+◌, ◌-◌, ◌*◌, ◌/◌, ◌%◌, ◌<◌, ◌≤◌, Bool, true, false, slice_set, ◌↔◌, is_some, min, length, Option, Some, None, List, arith, inl, inr, sym, ap, refl}
use Rattle.std.specs.List.{range_with_len}
use Rattle.std.proofs.Math.Nat.{le-div_iff_mul-le}
use Rattle.std.proofs.lemmas.Bool.{cases_lt}
use Rattle.std.proofs.lemmas.Bool.Decides.{nat_tests}
use Rattle.std.proofs.lemmas.Grind.{get_or-set_at}
use Rattle.std.proofs.lemmas.List.{get_or-set_other}
use Rattle.fill_bitmap.specs.declared.area.Area.{Area}
use Rattle.fill_bitmap.specs.Area.{IsSuitable, block_at, blocks_of}
use Rattle.fill_bitmap.specs.BlockSet.{has}
use Rattle.fill_bitmap.specs.Disk.{is_empty_at}
use Rattle.io_interpret.specs.Blocks.{touches_empty}
use Rattle.io_interpret.proofs.Ranges.{some_sectors}
use Rattle.write_gate.specs.declared.gating.Gated.TheVariants.{Fill, Pass}
use Rattle.write_gate.specs.Gate.{IsLowestEmpty, TouchesBlock, first_in_empty, gated_at}
use Rattle.write_gate.proofs.Finds.{IsFirst, find_first, find_is_first, find_any}

-- a sector lies in the block between whose ends it is
pub in_block : (block b s : ℕ) → b * block ≤ s → s < (b + 1) * block → s / block ≡ b
in_block block b s from before = grind arith

-- a sector lies between the ends of its block
pub of_block : (block s : ℕ) → 0 < block → (s / block * block ≤ s) × (s < (s / block + 1) * block)
of_block block s some = grind arith

-- a block of the image ends in it
ends_inside : (block image b : ℕ) → 0 < block → b < image / block → (b + 1) * block ≤ image
ends_inside block image b some inside = (le-div_iff_mul-le some).0 (omega arith)

-- the block of a sector of the image is one of its blocks
inside_image : (block image s : ℕ) → 0 < block → image % block ≡ 0 → s < image → s / block < image / block
inside_image block image s some whole inside = grind arith

is_empty : (area : Area) (filled : List Bool) (s : ℕ) → s < area.image → has filled (block_at area s) ≡ false
    → is_empty_at area filled s ≡ true
is_empty area filled s inside lacks = grind (arith, nat_tests)

isnt_empty : (area : Area) (filled : List Bool) (s : ℕ) → has filled (block_at area s) ≡ true
    → is_empty_at area filled s ≡ false
isnt_empty area filled s held = grind (arith, nat_tests)

-- a sector of the range below the lowest empty block lies in none
before_least : (area : Area) (filled : List Bool) (first count b k : ℕ) → 0 < area.block
    → IsLowestEmpty area filled first count b → first ≤ k → k < b * area.block → is_empty_at area filled k ≡ false
before_least area filled first count b k some least above below =
    let (low, high) = of_block area.block k some in
    let before : k / area.block < b = grind arith in
    let ends : b * area.block < first + count = least.touched.ends in
    let counts : 0 < count = least.touched.some in
    let touched : TouchesBlock area first count (k / area.block) = record {
      some = counts;
      begins = omega arith;
      ends = omega arith;
    } in
    isnt_empty area filled k (least.lowest (k / area.block) before touched)

found_at : (area : Area) (filled : List Bool) (first count b s : ℕ) → 0 < area.block
    → IsLowestEmpty area filled first count b → first ≤ s → b * area.block ≤ s → s < (b + 1) * area.block
    → s < first + count → ((k : ℕ) → first ≤ k → k < s → k < b * area.block)
    → gated_at area (first_in_empty area filled first count) ≡ Fill b
found_at area filled first count b s some least from low high within before =
    let same : s / area.block ≡ b = in_block area.block b s low high in
    let last : (b + 1) * area.block ≤ area.image = ends_inside area.block area.image b some least.inside in
    let empty : is_empty_at area filled s ≡ true = is_empty area filled s (omega arith) (rw same least.empty) in
    let found : first_in_empty area filled first count ≡ Some s = find_first (is_empty_at area filled) count first s
    from within empty (λ k above below. before_least area filled first count b k some least above
    (before k above below)) in
    rw found (ap Fill same)

-- the lowest empty block that a range touches is the one that its gate names
pub lowest_gates : (area : Area) (filled : List Bool) (first count b : ℕ) → IsSuitable area
    → IsLowestEmpty area filled first count b → gated_at area (first_in_empty area filled first count) ≡ Fill b
lowest_gates area filled first count b suitable least =
    let some = some_sectors area.block suitable.blocked in
    let begins : first < (b + 1) * area.block = least.touched.begins in
    let ends : b * area.block < first + count = least.touched.ends in
    let counts : 0 < count = least.touched.some in
    elim (cases_lt first (b * area.block)) [
      | inl later ↦ found_at area filled first count b (b * area.block) some least (omega arith) (omega arith)
          (omega arith) ends (λ k above below. below)
      | inr here ↦ found_at area filled first count b first some least (omega arith) here begins (omega arith)
          (λ k above below. absurd (omega arith))
    ]

-- what an empty sector is
empty_parts : (area : Area) (filled : List Bool) (s : ℕ) → is_empty_at area filled s ≡ true
    → (s < area.image) × (has filled (block_at area s) ≡ false)
empty_parts area filled s empty = grind (arith, nat_tests)

held_part : (area : Area) (filled : List Bool) (s : ℕ) → s < area.image → is_empty_at area filled s ≡ false
    → has filled (block_at area s) ≡ true
held_part area filled s inside full = grind (arith, nat_tests)

held_at : (area : Area) (filled : List Bool) (first count s k t : ℕ) → 0 < area.block
    → IsFirst (is_empty_at area filled) count first s → k < s / area.block → first ≤ t → k * area.block ≤ t
    → t < (k + 1) * area.block → has filled k ≡ true
held_at area filled first count s k t some found below from low high =
    let (above, within, empty, others) = found in
    let part : (k + 1) * area.block ≤ s = (le-div_iff_mul-le some).0 (omega arith) in
    let inside : s < area.image = (empty_parts area filled s empty).0 in
    let same : t / area.block ≡ k = in_block area.block k t low high in
    let held : has filled (t / area.block) ≡ true = held_part area filled t (omega arith) (others t from (omega arith)) in
    rw same at held

-- the block of the first sector of a range that lies in an empty one is the lowest empty block that the range touches
pub gates_lowest : (area : Area) (filled : List Bool) (first count s : ℕ) → IsSuitable area
    → first_in_empty area filled first count ≡ Some s → IsLowestEmpty area filled first count (block_at area s)
gates_lowest area filled first count s suitable found =
    let some = some_sectors area.block suitable.blocked in
    let is_first = find_is_first (is_empty_at area filled) count first s found in
    let (above, within, empty, others) = is_first in
    let (low, high) = of_block area.block s some in
    let (inside, lacks) = empty_parts area filled s empty in
    record {
      inside = inside_image area.block area.image s some suitable.whole inside;
      empty = lacks;
      touched = record { some = omega arith; begins = omega arith; ends = omega arith };
      lowest = λ k below touched. elim (cases_lt first (k * area.block)) [
        | inl later ↦ held_at area filled first count s k (k * area.block) some is_first below (omega arith)
            (omega arith) (omega arith)
        | inr here ↦ held_at area filled first count s k first some is_first below (omega arith) here
            touched.begins
      ];
    }

by_found : (area : Area) (o : Option ℕ) (any : Bool) → is_some o ≡ any → (gated_at area o ≡ Pass) ↔ (any ≡ false)
by_found area None any e = (λ passes. sym e, λ none. refl)
by_found area (Some s) any e = (λ passes. cc, λ none. cc)

-- a range passes exactly where it touches no empty block
pub pass_exactly : (area : Area) (filled : List Bool) (first count : ℕ)
    → (gated_at area (first_in_empty area filled first count) ≡ Pass) ↔ (touches_empty area filled first count ≡ false)
pass_exactly area filled first count =
    by_found area (first_in_empty area filled first count) (touches_empty area filled first count)
    (find_any (is_empty_at area filled) (range_with_len first count))

-- a range that touches no empty block has a gate that passes
pub untouched_passes : (area : Area) (filled : List Bool) (first count : ℕ)
    → touches_empty area filled first count ≡ false → Pass ≡ gated_at area (first_in_empty area filled first count)
untouched_passes area filled first count untouched = sym ((pass_exactly area filled first count).1 untouched)

-- a block that ends above a sector is none below the sector's
touched_from : (block first k : ℕ) → 0 < block → first < (k + 1) * block → first / block ≤ k
touched_from block first k some begins = grind arith

-- an empty block among those of the range's sectors of the image, behind others that are held, is the lowest
pub least_between : (area : Area) (filled : List Bool) (first count end b : ℕ) → 0 < area.block
    → end ≡ min area.image (first + count) → first < end → first / area.block ≤ b → b ≤ (end - 1) / area.block
    → b < blocks_of area → has filled b ≡ false
    → ((k : ℕ) → first / area.block ≤ k → k < b → has filled k ≡ true) → IsLowestEmpty area filled first count b
least_between area filled first count end b some ends any low high inside lacks held =
    let (from, before) = of_block area.block first some in
    let part : (first / area.block + 1) * area.block ≤ (b + 1) * area.block = grind arith in
    let last : b * area.block ≤ end - 1 = (le-div_iff_mul-le some).0 high in
    record {
      inside = inside;
      empty = lacks;
      touched = record { some = omega arith; begins = omega arith; ends = omega arith };
      lowest = λ k below touched. held k (touched_from area.block first k some touched.begins) below;
    }

by_named : (area : Area) (filled : List Bool) (first count b : ℕ) (o : Option ℕ) → IsSuitable area
    → first_in_empty area filled first count ≡ o → gated_at area o ≡ Fill b
    → IsLowestEmpty area filled first count b
by_named area filled first count b None suitable e named = cc
by_named area filled first count b (Some s) suitable e named =
    let same : block_at area s ≡ b = grind arith in
    let least = gates_lowest area filled first count s suitable e in rw same at least

-- the block that the gate of a range names is the lowest empty block that the range touches
pub named_is_lowest : (area : Area) (filled : List Bool) (first count b : ℕ) → IsSuitable area
    → gated_at area (first_in_empty area filled first count) ≡ Fill b → IsLowestEmpty area filled first count b
named_is_lowest area filled first count b suitable named =
    by_named area filled first count b (first_in_empty area filled first count) suitable refl named

-- a block that is still empty once the lowest was filled lies above it
pub next_above : (area : Area) (filled : List Bool) (first count b c : ℕ) → length filled ≡ blocks_of area
    → IsLowestEmpty area filled first count b → IsLowestEmpty area (slice_set filled b true) first count c → b < c
next_above area filled first count b c long least next = elim (cases_lt b c) [
  | inl above ↦ above
  | inr not_above ↦ elim (cases_lt c b) [
    | inl below ↦
        let held = least.lowest c below next.touched in
        let apart : c ≢ b = omega arith in
        let kept = get_or-set_other filled b c true false apart in
        let lacks = next.empty in cc
    | inr here ↦
        let same : c ≡ b = omega arith in
        let within : b < length filled = omega (arith, least.inside) in
        let held = get_or-set_at filled b c true false same within in
        let lacks = next.empty in cc
  ]
]
