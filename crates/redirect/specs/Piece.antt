-- The bytes of a sector among those of several.
use Rattle.std.specs.Prelude.{ℕ, ◌-◌, ◌*◌, List, take, drop}
use Rattle.ata_taskfile.specs.declared.registers.TheConstants.{SECTOR_BYTES}

-- the bytes of a sector among those of sectors from `base` on
abbrev pub piece_bytes : List ℕ → ℕ → ℕ → List ℕ
piece_bytes bytes base s = take SECTOR_BYTES (drop (SECTOR_BYTES * (s - base)) bytes)
