-- The three sets of blocks of a bitmap, and what each call does to them.
use Rattle.std.specs.Prelude.{ℕ, ◌≡◌, Bool, true, List, length, slice_set}
use Rattle.fill_bitmap.specs.Area.{sectors_for}
use Rattle.fill_bitmap.specs.BlockSet.{empty_set, IsWithin, with_sector}

-- the stored, the frozen and the filled blocks (own)
pub record Sets : Type 0 where
  pub stored : List Bool
  pub frozen : List Bool
  pub filled : List Bool

-- three sets of blocks, as those of a bitmap
abbrev pub these_sets : List Bool → List Bool → List Bool → Sets
these_sets stored frozen filled = record { stored = stored; frozen = frozen; filled = filled }

-- how many blocks the image has
abbrev pub blocks_in : Sets → ℕ
blocks_in s = length s.filled

-- how many sectors hold the bits of a bitmap's blocks
abbrev pub sectors_in : Sets → ℕ
sectors_in s = sectors_for (blocks_in s)

-- the stored blocks are within the frozen ones, and these within the filled ones (own)
pub record IsNested (s : Sets) : Type 0 where
  pub stored_blocks : length s.stored ≡ length s.filled
  pub frozen_blocks : length s.frozen ≡ length s.filled
  pub stored_frozen : IsWithin s.stored s.frozen
  pub frozen_filled : IsWithin s.frozen s.filled

-- none of so many blocks is in any of the sets
abbrev pub empty_sets : ℕ → Sets
empty_sets blocks = these_sets (empty_set blocks) (empty_set blocks) (empty_set blocks)

-- block `b` is filled as well
abbrev pub with_filled : ℕ → Sets → Sets
with_filled b s = record s { filled = slice_set s.filled b true }

-- the blocks of sector `k` of the bitmap are in each set as well (own)
abbrev pub loaded : ℕ → List ℕ → Sets → Sets
loaded k sector s =
    these_sets (with_sector k sector s.stored) (with_sector k sector s.frozen)
    (with_sector k sector s.filled)

-- the frozen blocks are those that are filled now
abbrev pub frozen_now : Sets → Sets
frozen_now s = record s { frozen = s.filled }

-- the stored blocks are the frozen ones
abbrev pub frozen_stored : Sets → Sets
frozen_stored s = record s { stored = s.frozen }
