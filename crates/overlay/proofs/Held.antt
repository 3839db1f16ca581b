-- Values that a cell holds.
use Rattle.std.proofs.Common.{◌≡◌, ℕ, zero, suc, ◌<◌, List, [], ◌∷◌, length, arith, refl, sym, subst}
use Rattle.std.specs.Prelude.{Contains}
use Rattle.ata_taskfile.specs.Device.{Cell}
use Rattle.plain_drive.specs.Plain.{values, appended}
use Rattle.plain_drive.specs.Cells.{cell_at, value_at}
use Rattle.plain_drive.proofs.Cells.{current_is_a_value}

-- a value stays where others are written
pub held_still : (s sector : ℕ) (bytes value : List ℕ) (cells : List Cell) → Contains (values (cell_at s cells)) value
    → Contains (values (cell_at s (appended sector bytes cells))) value
held_still s sector bytes value [] held = held
held_still zero zero bytes value (cell ∷ cells) (k, below, at) = (suc k, omega arith, at)
held_still zero (suc sector) bytes value (cell ∷ cells) held = held
held_still (suc s) zero bytes value (cell ∷ cells) held = held
held_still (suc s) (suc sector) bytes value (cell ∷ cells) held = held_still s sector bytes value cells held

written_there : (s : ℕ) (bytes : List ℕ) (cells : List Cell) → s < length cells
    → Contains (values (cell_at s (appended s bytes cells))) bytes
written_there s bytes [] below = absurd (omega arith)
written_there zero bytes (cell ∷ cells) below = (0, omega arith, refl)
written_there (suc s) bytes (cell ∷ cells) below = written_there s bytes cells (omega arith)

-- a written value is one of its sector's
pub written_held : (s sector : ℕ) (bytes : List ℕ) (cells : List Cell) → s < length cells → s ≡ sector
    → Contains (values (cell_at s (appended sector bytes cells))) bytes
written_held s sector bytes cells below same =
    subst (λ place. Contains (values (cell_at s (appended place bytes cells))) bytes) same
    (written_there s bytes cells below)

-- the newest value is one of its sector's
pub newest_held : (s : ℕ) (value : List ℕ) (cells : List Cell) → value ≡ value_at s cells
    → Contains (values (cell_at s cells)) value
newest_held s value cells e =
    subst (Contains (values (cell_at s cells))) (sym e) (current_is_a_value (cell_at s cells))
