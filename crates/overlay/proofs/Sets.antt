-- Sectors in empty blocks, of a set and of a smaller one.
use Rattle.std.proofs.Common.{◌≡◌, ℕ, Bool, true, false, not, ◌&&◌, nat_lt, List, refl, ap}
use Rattle.std.proofs.lemmas.Bool.{false_from_ne_true}
use Rattle.fill_bitmap.specs.declared.area.Area.{Area}
use Rattle.fill_bitmap.specs.Area.{block_at}
use Rattle.fill_bitmap.specs.BlockSet.{has, IsWithin}
use Rattle.fill_bitmap.specs.Disk.{is_empty_at}

-- a block that one set lacks, a smaller one lacks
lacks : (inner outer : List Bool) (b : ℕ) → IsWithin inner outer → has outer b ≡ false → has inner b ≡ false
lacks inner outer b within none = false_from_ne_true (has inner b) (λ held. let there = within b held in cc)

-- a sector in an empty block is in one of a smaller set
pub empty_in : (area : Area) (inner outer : List Bool) (s : ℕ) → IsWithin inner outer
    → is_empty_at area outer s ≡ true → is_empty_at area inner s ≡ true
empty_in area inner outer s within = by (nat_lt s area.image) (has outer (block_at area s)) refl
  where
    by : (image held : Bool) → has outer (block_at area s) ≡ held → (image && not held) ≡ true
        → (image && not (has inner (block_at area s))) ≡ true
    by false held e is = absurd cc
    by true true e is = absurd cc
    by true false e is = ap not (lacks inner outer (block_at area s) within e)

-- a sector in no empty block is in none of a larger set
pub full_in : (area : Area) (inner outer : List Bool) (s : ℕ) → IsWithin inner outer
    → is_empty_at area inner s ≡ false → is_empty_at area outer s ≡ false
full_in area inner outer s within full = false_from_ne_true (is_empty_at area outer s)
    (λ empty. let there = empty_in area inner outer s within empty in cc)
