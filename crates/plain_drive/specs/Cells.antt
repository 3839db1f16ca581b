-- The values of a sector in a store, and what a store forgets.
use Rattle.std.specs.Prelude.{ℕ, ◌≡◌, List, [], length, All, Contains, slice_index_or}
use Rattle.ata_taskfile.specs.Device.{Cell}
use Rattle.plain_drive.specs.Plain.{current, values, settled}

-- the cell of a sector
abbrev pub cell_at : ℕ → List Cell → Cell
cell_at s cells = slice_index_or cells s (settled [])

-- the value of a sector that a read gives
abbrev pub value_at : ℕ → List Cell → List ℕ
value_at s cells = current (cell_at s cells)

-- each value of a sector that a cut may leave is so
abbrev pub Each : (List ℕ → Type 0) → ℕ → List Cell → Type 0
Each P s cells = All P (values (cell_at s cells))

-- a store in which older values were forgotten, as they are where a written one becomes durable (own: the disk model)
pub record ForgetsOld (old new : List Cell) : Type 0 where
  pub cells : length new ≡ length old
  pub newest : (s : ℕ) → value_at s new ≡ value_at s old
  pub values : (s : ℕ) (value : List ℕ) → Contains (values (cell_at s new)) value
      → Contains (values (cell_at s old)) value
