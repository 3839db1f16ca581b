-- A set of blocks: a truth value for every block of the image.
use Rattle.std.specs.Prelude.{ℕ, ◌≡◌, ◌<◌, ◌+◌, ◌==◌, Bool, true, false, not, ◌&&◌, ◌||◌, Option, List, [], ◌∷◌, length, map, drop, replicate, position, slice_index_or}
use Rattle.std.specs.List.{range_with_len}
use Rattle.std.specs.Option.{option_or, option_map}
use Rattle.fill_bitmap.specs.Bits.{has_bit, sector_with_bit}

-- whether a set has the block; none has one past the last
abbrev pub has : List Bool → ℕ → Bool
has set b = slice_index_or set b false

-- how many blocks a set has
abbrev pub held_in : List Bool → ℕ
held_in [] = 0
held_in (true ∷ set) = 1 + held_in set
held_in (false ∷ set) = held_in set

-- a set of none of so many blocks
abbrev pub empty_set : ℕ → List Bool
empty_set blocks = replicate blocks false

-- a set that has every block
abbrev pub IsWhole : List Bool → Type 0
IsWhole set = (b : ℕ) → b < length set → has set b ≡ true

-- one set has each block that another has
abbrev pub IsWithin : List Bool → List Bool → Type 0
IsWithin inner outer = (b : ℕ) → has inner b ≡ true → has outer b ≡ true

-- whether a set is to have block `b`, once the bits of sector `k` of the bitmap are added to it (own)
abbrev pub has_added : ℕ → List ℕ → List Bool → ℕ → Bool
has_added k sector set b = has set b || ((sector_with_bit b == k) && has_bit sector b)

-- a set with the blocks whose bits are set in sector `k` of the bitmap; bits past the last block are ignored (own)
unfoldable pub with_sector : ℕ → List ℕ → List Bool → List Bool
with_sector k sector set = map (has_added k sector set) (range_with_len 0 (length set))

-- the first block from `b` on that a set lacks
abbrev pub first_outside : ℕ → List Bool → Option ℕ
first_outside b set = option_map (λ i. b + i) (position not (drop b set))

-- the first block from `b` on that a set lacks, else the first from 0 on (own)
abbrev pub next_outside : ℕ → List Bool → Option ℕ
next_outside b set = option_or (first_outside b set) (first_outside 0 set)
