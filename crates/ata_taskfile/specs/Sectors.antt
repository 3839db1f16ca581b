-- What the values of sectors are.
use Rattle.std.specs.Prelude.{ℕ, ◌≡◌, ◌<◌, List, All, length}
use Rattle.ata_taskfile.specs.declared.registers.TheConstants.{SECTOR_BYTES}
use Rattle.ata_taskfile.specs.Device.{Cell, Device}

-- each of these numbers is a byte
abbrev pub AreBytes : List ℕ → Type 0
AreBytes numbers = All (λ number. number < 256) numbers

-- the value of a sector: 512 bytes (own)
pub record IsSector (value : List ℕ) : Type 0 where
  pub size : length value ≡ SECTOR_BYTES
  pub bytes : AreBytes value

-- each value of a cell, durable or not, is a sector's
pub record HoldsSector (cell : Cell) : Type 0 where
  pub durable : IsSector cell.durable
  pub written : All IsSector cell.written

-- each value that the cells of a device hold is a sector's (own)
abbrev pub HoldsSectors : Device → Type 0
HoldsSectors d = All HoldsSector d.cells
