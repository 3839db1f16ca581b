-- What moving one sector answers, and what it changes.
use Rattle.std.specs.Prelude.{ℕ, ◌+◌, true, false, Option, Some, None, List, [], length, map}
use Rattle.ata_taskfile.specs.declared.bus_master.Bus.{Bus}
use Rattle.bm_dma.specs.declared.moves.Moved.{Moved}
use Rattle.bm_dma.specs.declared.moves.Moved.TheVariants.{Whole, Short, Outside, Waiting}
use Rattle.bm_dma.specs.declared.search.Found.{Found}
use Rattle.bm_dma.specs.declared.search.Found.TheVariants.{All, TableEnded, Bad}
use Rattle.bm_dma.specs.Memory.{byte_at, scattered}
use Rattle.bm_dma.specs.Run.{run_of, sector_places, found_in}

-- the places of the next sector of a walk, as memory stands; none without a walk
abbrev pub places_in : Option ℕ → ℕ → List ℕ → List ℕ
places_in None pointer memory = []
places_in (Some moved) pointer memory = sector_places moved (run_of pointer memory)

-- the places of the sector that the bus master moves next
abbrev pub places_next : Bus → List ℕ → List ℕ
places_next b memory = places_in b.walk b.pointer memory

-- the answer to what was found with so many places (own)
abbrev pub moved_as : Found → ℕ → Moved
moved_as (All last) places = Whole
moved_as TableEnded places = Short places
moved_as Bad places = Outside

-- the answer to moving the next sector of a walk (own)
abbrev pub outcome_in : Option ℕ → ℕ → List ℕ → Moved
outcome_in None pointer memory = Waiting
outcome_in (Some moved) pointer memory =
    moved_as (found_in moved (run_of pointer memory))
    (length (sector_places moved (run_of pointer memory)))

-- the answer to moving the bus master's next sector
abbrev pub outcome : Bus → List ℕ → Moved
outcome b memory = outcome_in b.walk b.pointer memory

-- the walk is over, and active is 0 (Bus Master IDE 1.0, status register)
abbrev pub walk_over : Bus → Bus
walk_over b = record b { active = false; walk = None }

-- the bus master after what was found of the sector behind so many: the walk is over where the table is, and a bad
-- descriptor is an error (own)
abbrev pub bus_after : Found → ℕ → Bus → Bus
bus_after (All false) moved b = record b { walk = Some (moved + 1) }
bus_after (All true) moved b = walk_over b
bus_after TableEnded moved b = walk_over b
bus_after Bad moved b = walk_over (record b { error = true })

-- the bus master after moving the next sector of such a walk; without one nothing changes (own)
abbrev pub bus_in : Option ℕ → List ℕ → Bus → Bus
bus_in None memory b = b
bus_in (Some moved) memory b = bus_after (found_in moved (run_of b.pointer memory)) moved b

-- the bus master after moving the next sector of its walk
abbrev pub bus_next : Bus → List ℕ → Bus
bus_next b memory = bus_in b.walk memory b

-- memory after a sector was moved in: the bytes that have a place are there (own)
abbrev pub memory_after : Moved → List ℕ → List ℕ → List ℕ → List ℕ
memory_after Whole places sector memory = scattered places sector memory
memory_after (Short n) places sector memory = scattered places sector memory
memory_after Outside places sector memory = memory
memory_after Waiting places sector memory = memory

-- the sector that was moved out; it is as it was where it isn't whole (own)
abbrev pub sector_after : Moved → List ℕ → List ℕ → List ℕ → List ℕ
sector_after Whole places memory sector = map (byte_at memory) places
sector_after (Short n) places memory sector = sector
sector_after Outside places memory sector = sector
sector_after Waiting places memory sector = sector
