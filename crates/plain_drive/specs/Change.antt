-- What a step does to the sectors.
use Rattle.std.specs.Prelude.{ℕ, ◌+◌, ◌-◌, ◌==◌, if◌then◌else◌, nat_lt, List, []}
use Rattle.ata_taskfile.specs.declared.Kind.{Kind}
use Rattle.ata_taskfile.specs.declared.Kind.TheVariants as kind
use Rattle.ata_taskfile.specs.declared.Form.{Form}
use Rattle.ata_taskfile.specs.declared.Form.TheVariants.{NoMove, PioIn, PioOut, DmaIn, DmaOut}
use Rattle.ata_taskfile.specs.declared.Request.{Request}
use Rattle.ata_taskfile.specs.declared.Taken.TheVariants.{Good, Bad}
use Rattle.ata_taskfile.specs.declared.Phase.{Phase}
use Rattle.ata_taskfile.specs.declared.Phase.TheVariants.{Reset, Idle, Busy, Ready}
use Rattle.ata_taskfile.specs.declared.Step.{Step}
use Rattle.ata_taskfile.specs.declared.Step.TheVariants as step
use Rattle.ata_taskfile.specs.Device.{Cell}
use Rattle.bm_dma.specs.declared.moves.Moved.{Moved}
use Rattle.bm_dma.specs.declared.moves.Moved.TheVariants.{Whole, Short, Outside, Waiting}
use Rattle.bm_dma.specs.Move.{outcome, places_next, sector_after}
use Rattle.plain_drive.specs.Plain.{Plain, appended, all_flushed}
use Rattle.plain_drive.specs.Words.{bytes_of}

-- no sector changes, one gets a value, or every current value becomes durable
pub data Change : Type 0 where
  leaves : Change
  writes : ℕ → List ℕ → Change
  flushes : Change

-- the cells after a change: a written value is its sector's newest, and a flush makes each current value
-- durable (ATA/ATAPI-6, FLUSH CACHE; own: the disk model)
abbrev pub cells_after : Change → List Cell → List Cell
cells_after leaves cells = cells
cells_after (writes s value) cells = appended s value cells
cells_after flushes cells = all_flushed cells

-- what a command without data does to the sectors (ATA/ATAPI-6, FLUSH CACHE)
abbrev pub change_without_data : Kind → Change
change_without_data kind.Flush = flushes
change_without_data kind.Read = leaves
change_without_data kind.Write = leaves
change_without_data kind.Verify = leaves
change_without_data kind.Identify = leaves
change_without_data kind.Features = leaves

-- what a sector that the bus master moved out of memory does: it is written where it is whole, and else reaches
-- no sector (own)
abbrev pub change_moved : Moved → ℕ → List ℕ → Change
change_moved Whole s value = writes s value
change_moved (Short n) s value = leaves
change_moved Outside s value = leaves
change_moved Waiting s value = leaves

-- what the next sector of a write by the bus master does: its bytes are those at the places that the table
-- names (Bus Master IDE 1.0, descriptor table)
abbrev pub change_walked : Request → ℕ → Plain → Change
change_walked order done p =
    change_moved (outcome p.device.bus p.memory) (order.first + done)
    (sector_after (outcome p.device.bus p.memory) (places_next p.device.bus p.memory) p.memory [])

-- what a good step of an order does to the sectors, one equation for each way in which its data moves: a block that
-- came is written to its sector (ATA/ATAPI-6, PIO data-out)
abbrev pub change_proceeded : Form → Request → ℕ → Plain → Change
change_proceeded PioIn order done p = leaves
change_proceeded PioOut order done p =
    if done == 0 then leaves else writes (order.first + (done - 1)) (bytes_of p.device.block)
change_proceeded DmaIn order done p = leaves
change_proceeded DmaOut order done p =
    if nat_lt done order.count then change_walked order done p else leaves
change_proceeded NoMove order done p = change_without_data order.kind

-- what a good step in a phase does to the sectors
abbrev pub change_in : Phase → Plain → Change
change_in Reset p = leaves
change_in Idle p = leaves
change_in (Ready taken done left) p = leaves
change_in (Busy (Bad reason) done) p = leaves
change_in (Busy (Good order) done) p = change_proceeded order.form order done p

-- what a step does to the sectors: one that fails changes none (own)
abbrev pub change_made : Step → Plain → Change
change_made step.Good p = change_in p.device.file.phase p
change_made step.Bad p = leaves
