-- Cells that hold the newest of others' values: of their own, of ends, after a write and a flush of both; and what
-- they forget.
use Rattle.std.proofs.Common.{◌≡◌, ℕ, zero, suc, ◌++◌, List, [], ◌∷◌, sym, ap, ◌∙◌, append_assoc, append-nil, length, refl, subst}
use Rattle.std.specs.Prelude.{Contains}
use Rattle.std.proofs.lemmas.List.Elements.{Contains-append_left}
use Rattle.ata_taskfile.specs.Device.{Cell}
use Rattle.plain_drive.specs.Plain.{values, appended, all_flushed}
use Rattle.plain_drive.specs.Physical.{AreEndsOf}
use Rattle.plain_drive.specs.Cells.{cell_at, ForgetsOld}
use Rattle.plain_drive.proofs.CellEnds.{ends-current}

-- cells are ends of themselves
pub ends-same : (cells : List Cell) → AreEndsOf cells cells
ends-same [] = tt
ends-same (cell ∷ cells) = (([], sym (append-nil (values cell))), ends-same cells)

-- ends of ends are ends
pub ends-ends : (newest newer wholes : List Cell) → AreEndsOf newest newer → AreEndsOf newer wholes
    → AreEndsOf newest wholes
ends-ends [] [] [] first second = tt
ends-ends [] [] (whole ∷ wholes) first second = absurd second
ends-ends [] (cell ∷ newer) wholes first second = absurd first
ends-ends (end ∷ newest) [] wholes first second = absurd first
ends-ends (end ∷ newest) (cell ∷ newer) [] first second = absurd second
ends-ends (end ∷ newest) (cell ∷ newer) (whole ∷ wholes) first second = (
  (
    first.0.0 ++ second.0.0,
    second.0.1 ∙ ap (λ l. l ++ second.0.0) first.0.1 ∙ append_assoc (values end) first.0.0 second.0.0,
  ),
  ends-ends newest newer wholes first.1 second.1,
)

-- ends of cells after the same write to both
pub ends-appended : (s : ℕ) (value : List ℕ) (cells wholes : List Cell) → AreEndsOf cells wholes
    → AreEndsOf (appended s value cells) (appended s value wholes)
ends-appended s value [] [] ends = ends
ends-appended s value [] (whole ∷ wholes) ends = absurd ends
ends-appended s value (cell ∷ cells) [] ends = absurd ends
ends-appended zero value (cell ∷ cells) (whole ∷ wholes) ends =
    ((ends.0.0, ap (λ l. value ∷ l) ends.0.1), ends.1)
ends-appended (suc s) value (cell ∷ cells) (whole ∷ wholes) ends =
    (ends.0, ends-appended s value cells wholes ends.1)

-- ends of cells after a flush of both
pub ends-flushed : (cells wholes : List Cell) → AreEndsOf cells wholes
    → AreEndsOf (all_flushed cells) (all_flushed wholes)
ends-flushed [] [] ends = ends
ends-flushed [] (whole ∷ wholes) ends = absurd ends
ends-flushed (cell ∷ cells) [] ends = absurd ends
ends-flushed (cell ∷ cells) (whole ∷ wholes) ends = (
  ([], ap (λ value. value ∷ []) (sym (ends-current (cell ∷ cells) (whole ∷ wholes) 0 ends))),
  ends-flushed cells wholes ends.1,
)

-- ends of cells are as many
ends-length : (cells wholes : List Cell) → AreEndsOf cells wholes → length cells ≡ length wholes
ends-length [] [] ends = refl
ends-length [] (whole ∷ wholes) ends = absurd ends
ends-length (cell ∷ cells) [] ends = absurd ends
ends-length (cell ∷ cells) (whole ∷ wholes) ends = ap suc (ends-length cells wholes ends.1)

-- ends of cells have no value besides
ends-values : (cells wholes : List Cell) (s : ℕ) (value : List ℕ) → AreEndsOf cells wholes
    → Contains (values (cell_at s cells)) value → Contains (values (cell_at s wholes)) value
ends-values [] [] s value ends held = held
ends-values [] (whole ∷ wholes) s value ends held = absurd ends
ends-values (cell ∷ cells) [] s value ends held = absurd ends
ends-values (cell ∷ cells) (whole ∷ wholes) zero value ends held =
    subst (λ l. Contains l value) (sym ends.0.1) (Contains-append_left (values cell) ends.0.0 value held)
ends-values (cell ∷ cells) (whole ∷ wholes) (suc s) value ends held = ends-values cells wholes s value ends.1 held

pub ends-forget : (old new : List Cell) → AreEndsOf new old → ForgetsOld old new
ends-forget old new ends = record {
  cells = ends-length new old ends;
  newest = λ s. ends-current new old s ends;
  values = λ s value held. ends-values new old s value ends held;
}
