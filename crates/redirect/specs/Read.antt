-- Reads that can be redirected, and where an order stands.
use Rattle.std.specs.Prelude.{ℕ, ◌+◌, ◌≡◌, ◌<◌, Bool, true, false}
use Rattle.ata_taskfile.specs.declared.Kind.TheVariants as kind
use Rattle.ata_taskfile.specs.declared.Form.{Form}
use Rattle.ata_taskfile.specs.declared.Form.TheVariants.{NoMove, PioIn, PioOut, DmaIn, DmaOut}
use Rattle.ata_taskfile.specs.declared.Request.{Request}
use Rattle.ata_taskfile.specs.declared.Taken.TheVariants.{Good, Bad}
use Rattle.ata_taskfile.specs.declared.Phase.{Phase}
use Rattle.ata_taskfile.specs.declared.Phase.TheVariants.{Reset, Idle, Busy, Ready}

-- the data of a command goes to the guest (ATA/ATAPI-6, PIO data-in and DMA)
abbrev pub goes_inward : Form → Bool
goes_inward NoMove = false
goes_inward PioIn = true
goes_inward PioOut = false
goes_inward DmaIn = true
goes_inward DmaOut = false

-- a read of sectors, as the table of commands gives it
pub record IsRead (request : Request) : Type 0 where
  pub kind : request.kind ≡ kind.Read
  pub inward : goes_inward request.form ≡ true
  pub some : 0 < request.count

-- the sector at which an order in hand stands; 0 without one
abbrev pub sector_in : Phase → ℕ
sector_in Reset = 0
sector_in Idle = 0
sector_in (Busy (Good order) done) = order.first + done
sector_in (Busy (Bad reason) done) = 0
sector_in (Ready (Good order) done left) = order.first + done
sector_in (Ready (Bad reason) done left) = 0
