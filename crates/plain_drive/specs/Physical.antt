-- The physical drive: durable sectors behind a write cache, and what it stands for.
use Rattle.std.specs.Prelude.{ℕ, ◌≡◌, ◌++◌, suc, List, [], ◌∷◌, slice_get, slice_set, Option, Some, None}
use Rattle.ata_taskfile.specs.declared.task_file.TaskFile.{TaskFile}
use Rattle.ata_taskfile.specs.declared.bus_master.Bus.{Bus}
use Rattle.ata_taskfile.specs.declared.Step.{Step}
use Rattle.ata_taskfile.specs.declared.Access.{Access}
use Rattle.ata_taskfile.specs.Device.{Cell, powered_on}
use Rattle.ata_taskfile.specs.Access.{accessed}
use Rattle.write_cache.specs.declared.entry.Entry.{Entry}
use Rattle.write_cache.specs.Cache.{Cached, entry_of, holding, put_out, taken_at, values_of, written}
use Rattle.plain_drive.specs.Plain.{Plain, values}
use Rattle.plain_drive.specs.Change.{Change, leaves, writes, flushes, change_made}
use Rattle.plain_drive.specs.Step.{step_made}

-- what a drive keeps of its sectors: their durable values, and the written values that aren't
-- durable yet (own: the disk model)
pub record Kept : Type 0 where
  pub durable : List (List ℕ)
  pub cache : Cached

-- so many entries may wait in the cache, and none does: these values are all durable
abbrev pub fresh : ℕ → List (List ℕ) → Kept
fresh room durable = record { durable = durable; cache = record { entries = []; room = room } }

-- the entries of a sector and its durable value, as a cell
abbrev pub cell_of : ℕ → List Entry → List ℕ → Cell
cell_of sector entries value = record { durable = value; written = values_of sector entries }

-- the cells of these durable values, the first of which is that of this sector
abbrev pub cells_from : ℕ → List Entry → List (List ℕ) → List Cell
cells_from sector entries [] = []
cells_from sector entries (value ∷ durable) =
    cell_of sector entries value ∷ cells_from (suc sector) entries durable

-- a cell for each sector: its durable value, and those of its entries, the newest first
abbrev pub cells_of : Kept → List Cell
cells_of k = cells_from 0 k.cache.entries k.durable

-- an entry becomes durable
abbrev pub made_durable : Entry → List (List ℕ) → List (List ℕ)
made_durable entry durable = slice_set durable entry.sector entry.bytes

-- an entry becomes durable, where there is one
abbrev pub put_durable : Option Entry → List (List ℕ) → List (List ℕ)
put_durable None durable = durable
put_durable (Some entry) durable = made_durable entry durable

-- entries become durable one after the other, the oldest first
abbrev pub all_durable : List Entry → List (List ℕ) → List (List ℕ)
all_durable [] durable = durable
all_durable (entry ∷ entries) durable = all_durable entries (made_durable entry durable)

-- after a change: a written value is the newest entry, for which the oldest becomes durable where
-- the cache is full; a flush makes all durable in order (own)
abbrev pub kept_after : Change → Kept → Kept
kept_after leaves k = k
kept_after (writes s value) k = record {
  durable = put_durable (put_out k.cache) k.durable;
  cache = written (entry_of s value) k.cache;
}
kept_after flushes k = record {
  durable = all_durable k.cache.entries k.durable;
  cache = holding [] k.cache;
}

-- after entry n, the oldest being entry 0, was made durable: it and the older ones of its sector go
-- (own)
abbrev pub kept_destaged : ℕ → Kept → Kept
kept_destaged n k = record {
  durable = put_durable (slice_get k.cache.entries n) k.durable;
  cache = holding (taken_at n k.cache.entries) k.cache;
}

-- after a power cut: the durable values alone (own)
abbrev pub kept_cut : Kept → Kept
kept_cut k = record k { cache = holding [] k.cache }

-- a drive with the sectors that it keeps, and the guest's memory
pub record Physical : Type 0 where
  pub file : TaskFile
  pub bus : Bus
  pub block : List ℕ
  pub sectors : ℕ
  pub memory : List ℕ
  pub kept : Kept

-- a physical drive as a plain one: a cell for each sector that it keeps
abbrev pub seen : Physical → Plain
seen p = record {
  device = record {
    file = p.file;
    bus = p.bus;
    block = p.block;
    cells = cells_of p.kept;
    sectors = p.sectors;
  };
  memory = p.memory;
}

-- a drive that is seen so but for its cells, and keeps this
abbrev pub keeping : Kept → Plain → Physical
keeping k p = record {
  file = p.device.file;
  bus = p.device.bus;
  block = p.device.block;
  sectors = p.device.sectors;
  memory = p.memory;
  kept = k;
}

-- after an access, which reaches no sector
abbrev pub physical_accessed : Access → Physical → Physical
physical_accessed access p =
    keeping p.kept (record (seen p) { device = accessed access (seen p).device })

-- after a step: the plain drive's, and the change that it makes to what is kept
abbrev pub physical_step : Step → Physical → Physical
physical_step s p = keeping (kept_after (change_made s (seen p)) p.kept) (step_made s (seen p))

-- after entry n became durable; no guest sees it
abbrev pub physical_destaged : ℕ → Physical → Physical
physical_destaged n p = record p { kept = kept_destaged n p.kept }

-- a drive at power-on that keeps this, with such a memory
abbrev pub physical_at_power_on : Kept → ℕ → List ℕ → Physical
physical_at_power_on k sectors memory =
    keeping k (record { device = powered_on [] sectors; memory = memory })

-- after a power cut, with the memory that the guest then has
abbrev pub physical_cut : List ℕ → Physical → Physical
physical_cut memory p = physical_at_power_on (kept_cut p.kept) p.sectors memory

-- a cell holds the newest of another's values, one at least, and so has the same current value
abbrev pub IsEndOf : Cell → Cell → Type 0
IsEndOf cell whole = (older : List (List ℕ)) × (values whole ≡ values cell ++ older)

-- each of these cells holds the newest values of the one beside it, one at least
abbrev pub AreEndsOf : List Cell → List Cell → Type 0
AreEndsOf [] [] = Unit {0}
AreEndsOf [] (whole ∷ wholes) = ⊥
AreEndsOf (cell ∷ cells) [] = ⊥
AreEndsOf (cell ∷ cells) (whole ∷ wholes) = IsEndOf cell whole × AreEndsOf cells wholes

-- a physical drive stands for a plain one: they are the same but for values that the physical one
-- has let go, and no current one is among these
pub record StandsFor (physical : Physical) (p : Plain) : Type 0 where
  pub file : physical.file ≡ p.device.file
  pub bus : physical.bus ≡ p.device.bus
  pub block : physical.block ≡ p.device.block
  pub sectors : physical.sectors ≡ p.device.sectors
  pub memory : physical.memory ≡ p.memory
  pub cells : AreEndsOf (cells_of physical.kept) p.device.cells
