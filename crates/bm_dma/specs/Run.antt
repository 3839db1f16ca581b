-- The descriptor run: the places that a table names, and those of one sector of a walk.
use Rattle.std.specs.Prelude.{ℕ, zero, suc, ◌+◌, ◌-◌, ◌*◌, ◌/◌, ◌==◌, Bool, true, false, ◌&&◌, ◌||◌, if◌then◌else◌, List, [], ◌++◌, length, take, drop}
use Rattle.ata_taskfile.specs.declared.registers.TheConstants.{SECTOR_BYTES}
use Rattle.bm_dma.specs.declared.descriptor.Descriptor.{Descriptor}
use Rattle.bm_dma.specs.declared.descriptor.TheConstants.{DESCRIPTOR_BYTES}
use Rattle.bm_dma.specs.declared.search.Found.{Found}
use Rattle.bm_dma.specs.declared.search.Found.TheVariants.{All, TableEnded, Bad}
use Rattle.bm_dma.specs.Descriptor.{descriptor_in, is_good, places_of}

-- places in order, and whether the mark of the end stands behind them; else a bad descriptor does
pub record Run : Type 0 where
  pub places : List ℕ
  pub ended : Bool

-- a bad descriptor: the run ends before it
abbrev pub bad_run : Run
bad_run = record { places = []; ended = false }

-- a descriptor and what stands behind it, which doesn't count where the descriptor is bad or the table's last
abbrev pub run_with : Descriptor → ℕ → Run → Run
run_with d size rest = if is_good d size
    then record {
      places = places_of d ++ (if d.is_last then [] else rest.places);
      ended = d.is_last || rest.ended;
    }
    else bad_run

-- the run from a place on, from which so many descriptors are in memory; the next one isn't, and so is bad (own)
abbrev pub run_from : ℕ → ℕ → List ℕ → Run
run_from zero at memory = bad_run
run_from (suc n) at memory =
    run_with (descriptor_in (drop at memory)) (length memory)
    (run_from n (at + DESCRIPTOR_BYTES) memory)

-- the descriptor run of the table at the pointer, up to the end mark or the first bad descriptor (Bus Master IDE 1.0,
-- descriptor table); it is finite, since it has no more descriptors than memory has room for
abbrev pub run_of : ℕ → List ℕ → Run
run_of pointer memory = run_from ((length memory - pointer) / DESCRIPTOR_BYTES) pointer memory

-- the places of the sector that follows so many others
abbrev pub sector_places : ℕ → Run → List ℕ
sector_places moved run = take SECTOR_BYTES (drop (SECTOR_BYTES * moved) run.places)

-- all places of the sector that follows so many others are there
abbrev pub has_all_places : ℕ → Run → Bool
has_all_places moved run = length (sector_places moved run) == SECTOR_BYTES

-- the last place of the sector that follows so many others is the table's last
abbrev pub is_tables_end : ℕ → Run → Bool
is_tables_end moved run =
    run.ended && (length run.places == SECTOR_BYTES * moved + SECTOR_BYTES)

-- what is found of the sector that follows so many others: all its places; else the table ended before, or a bad
-- descriptor was met (own)
abbrev pub found_in : ℕ → Run → Found
found_in moved run =
    if has_all_places moved run then All (is_tables_end moved run) else
    if run.ended then TableEnded else
    Bad
