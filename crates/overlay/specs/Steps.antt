-- Which sectors a step changes.
use Rattle.std.specs.Prelude.{ℕ, ◌≡◌, ◌≤◌, ◌<◌, ◌+◌, Bool, true, false}
use Rattle.ata_taskfile.specs.declared.Kind.{Kind}
use Rattle.ata_taskfile.specs.declared.Kind.TheVariants.{Read, Write, Verify, Flush, Identify, Features}
use Rattle.ata_taskfile.specs.declared.Taken.TheVariants.{Good, Bad}
use Rattle.ata_taskfile.specs.declared.Phase.{Phase}
use Rattle.ata_taskfile.specs.declared.Phase.TheVariants.{Reset, Idle, Busy, Ready}
use Rattle.plain_drive.specs.Alike.{gives_data}

-- no step in this phase changes a sector, nor does one behind it, until the next access (own)
abbrev pub leaves_sectors : Phase → Bool
leaves_sectors Reset = true
leaves_sectors Idle = true
leaves_sectors (Busy (Good order) done) = gives_data order.form
leaves_sectors (Busy (Bad reason) done) = true
leaves_sectors (Ready taken done left) = true

-- a kind of command whose data is that of its sectors
abbrev pub moves_sectors : Kind → Bool
moves_sectors Read = true
moves_sectors Write = true
moves_sectors Verify = false
moves_sectors Flush = false
moves_sectors Identify = false
moves_sectors Features = false

-- a step may write this sector: it is in the range of an order in hand whose data goes to the drive. The form tells
-- that, since what every device keeps lets a Read or a Write by the bus master go either way (own)
abbrev pub WritesWithin : Phase → ℕ → Type 0
WritesWithin Reset s = ⊥
WritesWithin Idle s = ⊥
WritesWithin (Busy (Good order) done) s =
    (gives_data order.form ≡ false) × (moves_sectors order.kind ≡ true)
    × (order.first ≤ s) × (s < order.first + order.count)
WritesWithin (Busy (Bad reason) done) s = ⊥
WritesWithin (Ready taken done left) s = ⊥

-- a step may make every sector durable: a flush is in hand (ATA/ATAPI-6, FLUSH CACHE)
abbrev pub FlushesIn : Phase → Type 0
FlushesIn Reset = ⊥
FlushesIn Idle = ⊥
FlushesIn (Busy (Good order) done) = order.kind ≡ Flush
FlushesIn (Busy (Bad reason) done) = ⊥
FlushesIn (Ready taken done left) = ⊥
