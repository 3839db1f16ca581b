-- What a store in memory holds.
use Rattle.std.specs.Prelude.{ℕ, length, replicate, Some}
use Rattle.drive_store.specs.declared.memory_store.MemoryStore.{MemoryStore}
use Rattle.ata_taskfile.specs.declared.registers.TheConstants.{SECTOR_BYTES}
use Rattle.drive_store.specs.Store.{Sectors}

-- a store in memory tells its sectors (own)
abbrev pub sectors_of : MemoryStore → Sectors
sectors_of s = record { count = length s.sectors.items; told = Some s.sectors.items }

-- so many sectors of zeros
abbrev pub zeroed : ℕ → Sectors
zeroed n = record { count = n; told = Some (replicate n (replicate SECTOR_BYTES 0)) }

-- how often a call to a store in memory failed: never (own)
abbrev pub faults_of : MemoryStore → ℕ
faults_of s = 0
