-- What a power cut may leave.
use Rattle.std.specs.Prelude.{ℕ, List, [], ◌∷◌, Contains}
use Rattle.ata_taskfile.specs.Device.{Cell, powered_on}
use Rattle.plain_drive.specs.Plain.{Plain, values, stored}

-- a list of sectors that a cut may leave of a store: for each cell one of its values
-- (own: the disk model)
abbrev pub IsOutcome : List Cell → List (List ℕ) → Type 0
IsOutcome [] [] = Unit {0}
IsOutcome [] (value ∷ outcome) = ⊥
IsOutcome (cell ∷ cells) [] = ⊥
IsOutcome (cell ∷ cells) (value ∷ outcome) = Contains (values cell) value × IsOutcome cells outcome

-- a drive at power-on over these sectors, which says that it has `sectors` of them, and this memory
abbrev pub drive_at_power_on : List (List ℕ) → ℕ → List ℕ → Plain
drive_at_power_on values sectors memory =
    record { device = powered_on (stored values) sectors; memory = memory }
