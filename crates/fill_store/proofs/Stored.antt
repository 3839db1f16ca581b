-- The stored blocks of what a cut leaves.
use Rattle.std.proofs.Common.{◌≡◌, ℕ, ◌==◌, ◌/◌, ◌%◌, ◌<◌, Bool, false, List, map, replicate, get_or, arith, refl, ap, sym, ◌∙◌}
use Rattle.std.specs.Cmp.{both_ways}
use Rattle.std.specs.Int.{bit_at}
use Rattle.std.specs.List.{range_with_len}
use Rattle.std.proofs.lemmas.Bool.{cond_both}
use Rattle.std.proofs.lemmas.List.{get_or-replicate, length-replicate}
use Rattle.std.proofs.lemmas.List.FromFn.{fill_by_all}
use Rattle.std.proofs.lemmas.Nat.Bits.{bit_at-zero}
use Rattle.ata_taskfile.specs.Device.{Cell}
use Rattle.plain_drive.specs.Cut.{IsOutcome}
use Rattle.fill_bitmap.specs.declared.area.Area.{Area}
use Rattle.fill_bitmap.specs.Area.{blocks_of, bitmap_sectors_of, reserved_of, sector_of_bits}
use Rattle.fill_bitmap.specs.Bits.{has_bit}
use Rattle.fill_bitmap.specs.BlockSet.{has, empty_set, IsWithin}
use Rattle.fill_bitmap.specs.Disk.{header_of, HasHeader, has_header, bitmap_sector, says_stored, stored_blocks}
use Rattle.fill_bitmap.proofs.Disks.{has-empty_set, has_header-true}
use Rattle.fill_bitmap.proofs.StoredBlocks.{sector_of_block, stored_block, held_inside, stored_inside}
use Rattle.fill_store.specs.Sectors.{zero_bits}
use Rattle.fill_store.specs.Cells.{KeepsBits, HasBitsBetween}
use Rattle.fill_store.proofs.Values.{left_by_cut}

-- zeros have no bit set
pub no_bit : (b : ℕ) → has_bit zero_bits b ≡ false
unfolding zero_bits
no_bit b =
    let nothing : get_or (replicate 512 0) (b % 4096 / 8) 0 ≡ 0 = get_or-replicate 512 (b % 4096 / 8) 0 0
    (omega arith) in
    ap (λ byte. bit_at byte (b % 8) == 1) nothing ∙ ap (λ bit. bit == 1) (bit_at-zero (b % 8))

-- a bitmap of zeros stores no block
pub zeros_stored : (area : Area) (id : ℕ) (disk : List (List ℕ))
    → ((k : ℕ) → k < bitmap_sectors_of area → bitmap_sector area disk k ≡ zero_bits)
    → stored_blocks area id disk ≡ empty_set (blocks_of area)
zeros_stored area id disk zeros =
    cond_both (has_header area id disk) (map (says_stored area disk) (range_with_len 0 (blocks_of area)))
    (empty_set (blocks_of area))
    (λ (set : List Bool). set ≡ empty_set (blocks_of area))
    (λ yes. sym (fill_by_all (says_stored area disk) (empty_set (blocks_of area)) (blocks_of area) false
    (length-replicate (blocks_of area) false)
    (λ b inside. has-empty_set (blocks_of area) b
    ∙ sym (ap (λ bytes. has_bit bytes b) (zeros (b / 4096) (sector_of_block area b inside)) ∙ no_bit b))))
    (λ no. refl)

-- the header is what a cut leaves
pub cut_header : (area : Area) (id : ℕ) (least most : List Bool) (cells : List Cell) (outcome : List (List ℕ))
    → KeepsBits area id least most cells → IsOutcome cells outcome → HasHeader area id outcome
cut_header area id least most cells outcome kept left =
    let reserved = kept.reserved in
    left_by_cut (λ value. value ≡ header_of area id) (reserved_of area) cells outcome (omega arith) kept.header left

-- each sector of the bitmap that a cut leaves has its bits between the two sets
pub cut_bits : (area : Area) (id : ℕ) (least most : List Bool) (cells : List Cell) (outcome : List (List ℕ)) (k : ℕ)
    → k < bitmap_sectors_of area → KeepsBits area id least most cells → IsOutcome cells outcome
    → HasBitsBetween area k least most (bitmap_sector area outcome k)
cut_bits area id least most cells outcome k inside kept left =
    let reserved = kept.reserved in
    left_by_cut (HasBitsBetween area k least most) (sector_of_bits area k) cells outcome (omega arith)
    (kept.bits k inside) left

-- a cut leaves each block of the first set stored
pub cut_stores : (area : Area) (id : ℕ) (least most : List Bool) (cells : List Cell) (outcome : List (List ℕ))
    → KeepsBits area id least most cells → IsOutcome cells outcome → IsWithin least (stored_blocks area id outcome)
cut_stores area id least most cells outcome kept left b held =
    let blocks = kept.blocks in
    let below = held_inside least b held in
    let inside : b < blocks_of area = omega arith in
    stored_block area id outcome b (cut_header area id least most cells outcome kept left) inside
    ∙ (cut_bits area id least most cells outcome (b / 4096) (sector_of_block area b inside) kept left).least_set
    b refl held

-- a cut leaves no block stored that the other set lacks
pub cut_stores_no_other : (area : Area) (id : ℕ) (least most : List Bool) (cells : List Cell) (outcome : List (List ℕ))
    → KeepsBits area id least most cells → IsOutcome cells outcome → IsWithin (stored_blocks area id outcome) most
cut_stores_no_other area id least most cells outcome kept left b held =
    let inside = stored_inside area id outcome b held in
    let says = sym (stored_block area id outcome b (cut_header area id least most cells outcome kept left) inside)
    ∙ held in
    (cut_bits area id least most cells outcome (b / 4096) (sector_of_block area b inside) kept left).set_most
    b inside refl says

-- where the two sets are one, a cut leaves exactly its blocks stored
pub cut_stores_set : (area : Area) (id : ℕ) (set : List Bool) (cells : List Cell) (outcome : List (List ℕ))
    → KeepsBits area id set set cells → IsOutcome cells outcome → stored_blocks area id outcome ≡ set
cut_stores_set area id set cells outcome kept left =
    let header = cut_header area id set set cells outcome kept left in
    rw (has_header-true area id outcome header)
    (sym (fill_by_all (says_stored area outcome) set (blocks_of area) false kept.blocks
    (λ b inside.
    let bits = cut_bits area id set set cells outcome (b / 4096) (sector_of_block area b inside) kept left in
    both_ways (has set b) (says_stored area outcome b) (bits.least_set b refl) (bits.set_most b inside refl))))
