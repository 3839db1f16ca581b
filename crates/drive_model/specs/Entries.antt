-- Where the entries of a cache belong.
use Rattle.std.specs.Prelude.{ℕ, ◌<◌, List, All}
use Rattle.ata_taskfile.specs.Sectors.{IsSector}
use Rattle.write_cache.specs.declared.entry.Entry.{Entry}

-- each entry is of one of so many sectors
abbrev pub AreWithin : ℕ → List Entry → Type 0
AreWithin count entries = All (λ entry. entry.sector < count) entries

-- each entry's bytes are the value of a sector
abbrev pub AreSectors : List Entry → Type 0
AreSectors entries = All (λ entry. IsSector entry.bytes) entries
