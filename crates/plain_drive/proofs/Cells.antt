-- The values of a cell, what a write and a flush make of them, and the cells of a physical drive.
use Rattle.std.proofs.Common.{◌≡◌, ◌≢◌, ◌<◌, ◌+◌, ◌++◌, ℕ, zero, suc, List, [], ◌∷◌, map, length, slice_index_or, refl, ap, sym, arith}
use Rattle.std.specs.Prelude.{Contains}
use Rattle.ata_taskfile.specs.Device.{Cell}
use Rattle.write_cache.specs.declared.entry.Entry.{Entry}
use Rattle.plain_drive.specs.Plain.{values, stored, settled, current, appended, all_flushed}
use Rattle.plain_drive.specs.Physical.{cell_of, cells_from}

-- a list of one element holds that one alone
pub contained_alone : {A : Type 0} (x y : A) → Contains (x ∷ []) y → y ≡ x
contained_alone x y (zero, below, at) = sym at
contained_alone x y (suc k, below, at) = absurd (omega arith)

-- the current value of a cell is one of its values
pub current_is_a_value : (cell : Cell) → Contains (values cell) (current cell)
current_is_a_value cell = first cell.durable cell.written
  where
    first : (durable : List ℕ) (written : List (List ℕ)) → Contains (written ++ durable ∷ [])
        (slice_index_or written 0 durable)
    first durable [] = (0, omega arith, refl)
    first durable (value ∷ written) = (0, omega arith, refl)

-- a write leaves as many cells
pub length-appended : (s : ℕ) (value : List ℕ) (cells : List Cell) → length (appended s value cells) ≡ length cells
length-appended s value [] = refl
length-appended zero value (cell ∷ cells) = refl
length-appended (suc s) value (cell ∷ cells) = ap suc (length-appended s value cells)

-- a value that is written is the current one of its sector
pub appended-current : (s : ℕ) (value : List ℕ) (cells : List Cell) → s < length cells
    → current (slice_index_or (appended s value cells) s (settled [])) ≡ value
appended-current s value [] below = absurd (omega arith)
appended-current zero value (cell ∷ cells) below = refl
appended-current (suc s) value (cell ∷ cells) below = appended-current s value cells (omega arith)

-- and every other sector stays
pub appended-others : (s other : ℕ) (value : List ℕ) (cells : List Cell) → other ≢ s
    → slice_index_or (appended s value cells) other (settled []) ≡ slice_index_or cells other (settled [])
appended-others s other value [] apart = refl
appended-others zero zero value (cell ∷ cells) apart = absurd (apart refl)
appended-others zero (suc other) value (cell ∷ cells) apart = refl
appended-others (suc s) zero value (cell ∷ cells) apart = refl
appended-others (suc s) (suc other) value (cell ∷ cells) apart = appended-others s other value cells
    (λ e. apart (ap suc e))

-- a flush makes a store of the current values
pub all_flushed-stored : (cells : List Cell) → all_flushed cells ≡ stored (map current cells)
all_flushed-stored [] = refl
all_flushed-stored (cell ∷ cells) = ap (λ rest. settled (current cell) ∷ rest) (all_flushed-stored cells)

-- the cell of a sector has its entries and its durable value
pub cells_from-at : (n i s : ℕ) (entries : List Entry) (durable : List (List ℕ)) → s ≡ n + i → i < length durable
    → slice_index_or (cells_from n entries durable) i (settled []) ≡ cell_of s entries (slice_index_or durable i [])
cells_from-at n i s entries [] at below = absurd (omega arith)
cells_from-at n zero s entries (value ∷ durable) at below = let same : n ≡ s = omega arith in
    ap (λ m. cell_of m entries value) same
cells_from-at n (suc i) s entries (value ∷ durable) at below = cells_from-at (suc n) i s entries durable
    (omega arith) (omega arith)
