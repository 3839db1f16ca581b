-- No access changes a cell, or how many sectors the device says it has.
use Rattle.std.proofs.Common.{◌≡◌, arith}
use Rattle.ata_taskfile.specs.declared.Access.{Access}
use Rattle.ata_taskfile.specs.Device.{Device}
use Rattle.ata_taskfile.specs.Access.{accessed}

pub accessed-cells : (a : Access) (d : Device) → (accessed a d).cells ≡ d.cells
accessed-cells a d = grind arith

pub accessed-sectors : (a : Access) (d : Device) → (accessed a d).sectors ≡ d.sectors
accessed-sectors a d = grind arith
