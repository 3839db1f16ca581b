-- A block that has come from the image has the sectors of a plain drive.
use Rattle.std.proofs.Common.{◌≡◌, ◌⊎◌, ℕ, zero, suc, ◌+◌, ◌-◌, ◌*◌, ◌/◌, ◌%◌, ◌<◌, ◌≤◌, Bool, true, false, List, [], ◌∷◌, length, take, drop, slice_get, Some, inl, inr, refl, sym, ap, ◌∙◌, arith, length-append, length-take, length-drop}
use Rattle.std.specs.List.{list_all}
use Rattle.std.proofs.Math.Nat.{mul-le-mul_right}
use Rattle.std.proofs.lemmas.Bool.{cases_lt}
use Rattle.std.proofs.lemmas.Bool.Decides.{nat_tests}
use Rattle.std.proofs.lemmas.List.{drop-drop, drop-take, drop_at, get_or_past, take-take, take_at}
use Rattle.std.proofs.lemmas.Nat.{div-add-mod', div-mul-add, div_below}
use Rattle.ata_taskfile.specs.declared.registers.TheConstants.{SECTOR_BYTES}
use Rattle.ata_taskfile.specs.Device.{Cell, Device}
use Rattle.aoe_client.specs.declared.tags.TagState.{TagState}
use Rattle.aoe_client.specs.declared.tags.TagState.TheVariants.{Due, Unanswered, Answered}
use Rattle.aoe_client.specs.Asking.{HasTags}
use Rattle.aoe_client.specs.Buffers.{Holds}
use Rattle.aoe_client.specs.Fetching.{Fetching, is_answered, part}
use Rattle.fill_bitmap.specs.declared.area.Area.{Area}
use Rattle.fill_bitmap.specs.Area.{IsSuitable, block_at, reserved_of}
use Rattle.fill_bitmap.specs.BlockSet.{has}
use Rattle.fill_bitmap.specs.Disk.{is_empty_at, sector_at}
use Rattle.io_interpret.specs.Blocks.{empty_block}
use Rattle.io_interpret.proofs.Ranges.{some_sectors}
use Rattle.mon_pool.specs.Region.{HasWholeBuffers, IsOf, Region, leased_bytes}
use Rattle.mon_pool.proofs.Parts.{length_bytes}
use Rattle.overlay.specs.Overlay.{HasValues}
use Rattle.overlay.proofs.Values.{of_image}
use Rattle.monitor_state.specs.Buffered.{image_part}
use Rattle.monitor_state.specs.Sectors.{IsBlockOf}
use Rattle.monitor_turn.proofs.Collecting.{block_if}

-- two that are whole or nothing, and have together as many bytes as two whole ones, are whole
both_whole : (m n : ℕ) → (m ≡ 512) ⊎ (m ≡ 0) → (n ≡ 512) ⊎ (n ≡ 0) → m + n ≡ 1024 → (m ≡ 512) × (n ≡ 512)
both_whole m n first second sum = (omega (arith, first, second, sum), omega (arith, first, second, sum))

half : (n : ℕ) → (n ≡ 2 * (n / 2)) ⊎ (n ≡ 2 * (n / 2) + 1)
half n = elim (cases_lt (n % 2) 1) [
  | inl even ↦ inl (omega (arith, even))
  | inr odd ↦ inr (omega (arith, odd))
]

-- where a sector stands in a buffer, by the tag that has it
even_bytes : (i : ℕ) (bytes : List ℕ) → take 512 (drop (512 * (2 * i)) bytes) ≡ take 512 (part i bytes)
even_bytes i bytes =
    let place : 512 * (2 * i) ≡ i * 1024 = omega arith in
    ap (λ n. take 512 (drop n bytes)) place ∙ sym (take-take 512 1024 (drop (i * 1024) bytes) (omega arith))

odd_bytes : (i : ℕ) (bytes : List ℕ) → take 512 (drop (512 * (2 * i + 1)) bytes) ≡ drop 512 (part i bytes)
odd_bytes i bytes =
    let place : 512 * (2 * i + 1) ≡ i * 1024 + 512 = omega arith in
    ap (λ n. take 512 (drop n bytes)) place ∙ ap (take 512) (sym (drop-drop 512 (i * 1024) bytes))
    ∙ sym (drop-take 512 512 (drop (i * 1024) bytes))

-- an image whose sectors are whole, and so many tags from the first on that a buffer has
module _ (image : List (List ℕ)) (whole : (s : ℕ) → s < length image → length (sector_at s image) ≡ SECTOR_BYTES)
    (bytes : List ℕ) (first tags : ℕ) (room : tags * 1024 ≤ length bytes)
    (each : (i : ℕ) → i < tags → part i bytes ≡ image_part image (first + i)) where
  sector_size : (s : ℕ) → (length (sector_at s image) ≡ 512) ⊎ (length (sector_at s image) ≡ 0)
  sector_size s = elim (cases_lt s (length image)) [
    | inl here ↦ inl (whole s here)
    | inr past ↦ inr (ap length (get_or_past image s [] past))
  ]

  part_size : (i : ℕ) → i < tags → length (part i bytes) ≡ 1024
  part_size i below = omega (arith, room, below, length-take 1024 (drop (i * 1024) bytes), length-drop (i * 1024) bytes)

  tag_sectors : (i : ℕ) → i < tags → (take 512 (part i bytes) ≡ sector_at (2 * (first + i)) image)
      × (drop 512 (part i bytes) ≡ sector_at (2 * (first + i) + 1) image)
  tag_sectors i below =
      let a = sector_at (2 * (first + i)) image in
      let b = sector_at (2 * (first + i) + 1) image in
      let sizes = both_whole (length a) (length b) (sector_size (2 * (first + i))) (sector_size (2 * (first + i) + 1))
      (sym (length-append a b) ∙ sym (ap length (each i below)) ∙ part_size i below) in
      (ap (take 512) (each i below) ∙ take_at a b 512 sizes.0, ap (drop 512) (each i below) ∙ drop_at a b 512 sizes.0)

  -- each sector of the buffer is the image's
  pub sector_came : (n : ℕ) → n < 2 * tags → take 512 (drop (512 * n) bytes) ≡ sector_at (2 * first + n) image
  sector_came n below =
      let i = n / 2 in
      elim (half n) [
        | inl even ↦
            let place : 2 * (first + i) ≡ 2 * first + n = omega (arith, even) in
            ap (λ k. take 512 (drop (512 * k) bytes)) even ∙ even_bytes i bytes
            ∙ (tag_sectors i (omega (arith, even, below))).0 ∙ ap (λ s. sector_at s image) place
        | inr odd ↦
            let place : 2 * (first + i) + 1 ≡ 2 * first + n = omega (arith, odd) in
            ap (λ k. take 512 (drop (512 * k) bytes)) odd ∙ odd_bytes i bytes
            ∙ (tag_sectors i (omega (arith, odd, below))).1 ∙ ap (λ s. sector_at s image) place
      ]

-- a tag of a block that has come is answered
pub all_answered : (tags : List TagState) (i : ℕ) → list_all is_answered tags ≡ true → i < length tags
    → slice_get tags i ≡ Some Answered
all_answered [] i all below = absurd (omega arith)
all_answered (Due ∷ tags) i all below = cc
all_answered (Unanswered ∷ tags) i all below = cc
all_answered (Answered ∷ tags) zero all below = refl
all_answered (Answered ∷ tags) (suc i) all below = all_answered tags i all (omega arith)

-- an empty sector is one of the image's
pub emptiness : (area : Area) (filled : List Bool) (s : ℕ) → is_empty_at area filled s ≡ true
    → (s < area.image) × (has filled (block_at area s) ≡ false)
emptiness area filled s empty = (grind (arith, nat_tests), grind (arith, nat_tests))

is_empty : (area : Area) (filled : List Bool) (s : ℕ) → s < area.image → has filled (block_at area s) ≡ false
    → is_empty_at area filled s ≡ true
is_empty area filled s inside lacks = grind (arith, nat_tests)

-- each sector of an empty block lies in one
pub in_empty_block : (area : Area) (filled : List Bool) (sector b s : ℕ) → IsSuitable area
    → empty_block area filled sector ≡ Some b → b * area.block ≤ s → s < b * area.block + area.block
    → is_empty_at area filled s ≡ true
in_empty_block area filled sector b s suitable is above below =
    let block = area.block in
    let there = block_if area filled sector b is in
    let some = some_sectors block suitable.blocked in
    let empty = emptiness area filled sector there.1 in
    let blocks = area.image / block in
    let all : area.image ≡ blocks * block = omega (arith, div-add-mod' area.image block, suitable.whole) in
    let less : sector / block < blocks = div_below sector block blocks some (omega (arith, empty.0, all)) in
    let up : (b + 1) * block ≤ blocks * block = mul-le-mul_right block (omega (arith, less, there.0)) in
    let split : (b + 1) * block ≡ b * block + block = omega arith in
    let n = s - b * block in
    let place : b * block + n ≡ s = omega (arith, above) in
    let same : s / block ≡ sector / block =
    ap (λ k. k / block) (sym place) ∙ div-mul-add b block n (omega (arith, above, below)) ∙ there.0 in
    is_empty area filled s (omega (arith, below, split, up, all)) (ap (has filled) same ∙ empty.1)

below_reserved : (area : Area) → IsSuitable area → area.image ≤ reserved_of area
below_reserved area suitable = grind arith

-- a block's first tag is that of its first sector
pub tags_place : (b block tags : ℕ) → block ≡ 2 * tags → 2 * (b * tags) ≡ b * block
tags_place b block tags two =
    let swap : 2 * (b * tags) ≡ b * (2 * tags) = omega arith in swap ∙ ap (λ k. b * k) (sym two)

-- a block that has come of an empty one has a plain drive's sectors
pub block_came : (image : List (List ℕ)) (area : Area) (filled : List Bool) (cells : List Cell) (g : Device)
    (pool : Region) (f : Fetching) (sector : ℕ)
    → ((s : ℕ) → s < length image → length (sector_at s image) ≡ SECTOR_BYTES)
    → HasValues area filled image cells g.cells → IsSuitable area → pool.room ≡ SECTOR_BYTES * area.block
    → HasWholeBuffers pool → IsOf f.lease pool → HasTags area.block (Some f) → Holds (image_part image) (Some f) pool
    → list_all is_answered f.tags ≡ true → empty_block area filled sector ≡ Some f.block
    → IsBlockOf g pool area.block (Some (f.block, f.lease))
block_came image area filled cells g pool f sector sized values suitable room whole of count holds all empty =
    λ s above below.
    let block = area.block in
    let tags = length f.tags in
    let bytes = leased_bytes f.lease pool in
    let two : block ≡ 2 * tags = omega (arith, suitable.blocked, count) in
    let n = s - f.block * block in
    let first = tags_place f.block block tags two in
    let is = in_empty_block area filled sector f.block s suitable empty above below in
    let inside = emptiness area filled s is in
    let low : s < reserved_of area = omega (arith, inside.0, below_reserved area suitable) in
    let place : 2 * (f.block * tags) + n ≡ s = omega (arith, first, above) in
    of_image area filled image cells g.cells s values low is
    ∙ sym (sector_came image sized bytes (f.block * tags) tags
    (omega (arith, length_bytes pool f.lease whole of, room, two))
    (λ i within. holds i (all_answered f.tags i all within)) n (omega (arith, above, below, two))
    ∙ ap (λ k. sector_at k image) place)
