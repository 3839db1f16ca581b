-- Inner: what a drive and the guest's memory mean together.
use Rattle.std.specs.Prelude.{ℕ, List}
use Rattle.ata_taskfile.specs.Device.{Device}
use Rattle.drive_store.specs.declared.memory_store.MemoryStore.{MemoryStore}
use Rattle.plain_drive.specs.Plain.{plain}
use Rattle.plain_drive.specs.Physical.{Physical, keeping, seen}
use Rattle.drive_model.specs.Drive.{physical_of}
use Rattle.world.specs.declared.machine.Machine.{Machine}

-- the physical drive over this memory
abbrev pub physical : Machine → Physical
physical m = physical_of m.drive m.memory

-- the device that its guest sees
abbrev pub device : Machine → Device
device m = (seen (physical m)).device

-- a physical drive with another device, whose sectors stay
abbrev pub with_device : Device → Physical → Physical
with_device d p = keeping p.kept (plain d p.memory)

-- a physical drive with another memory of the guest
abbrev pub with_memory : List ℕ → Physical → Physical
with_memory memory p = record p { memory = memory }

-- the sectors of a store in memory, which tells them
abbrev pub list_of : MemoryStore → List (List ℕ)
list_of store = store.sectors.items
