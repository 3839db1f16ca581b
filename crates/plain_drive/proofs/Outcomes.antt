-- What a cut may leave of a store.
use Rattle.std.proofs.Common.{◌≡◌, ℕ, List, [], ◌∷◌, map, refl, arith}
use Rattle.ata_taskfile.specs.Device.{Cell}
use Rattle.plain_drive.specs.Plain.{stored, current}
use Rattle.plain_drive.specs.Cut.{IsOutcome}
use Rattle.plain_drive.proofs.Cells.{contained_alone, current_is_a_value}

-- without writes an outcome is the values
pub outcome_is_values : (vs os : List (List ℕ)) → IsOutcome (stored vs) os → os ≡ vs
outcome_is_values [] [] h = refl
outcome_is_values [] (o ∷ os) h = absurd h
outcome_is_values (v ∷ vs) [] h = absurd h
outcome_is_values (v ∷ vs) (o ∷ os) (one, rest) =
    let same = outcome_is_values vs os rest in
    let first = contained_alone v o one in cc

-- and the values are an outcome
pub values_are_outcome : (vs : List (List ℕ)) → IsOutcome (stored vs) vs
values_are_outcome [] = tt
values_are_outcome (v ∷ vs) = ((0, omega arith, refl), values_are_outcome vs)

-- the current values are an outcome, whatever was written
pub current_are_outcome : (cells : List Cell) → IsOutcome cells (map current cells)
current_are_outcome [] = tt
current_are_outcome (cell ∷ cells) = (current_is_a_value cell, current_are_outcome cells)
