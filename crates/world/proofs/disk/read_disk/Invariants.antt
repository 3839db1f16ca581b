use Rattle.std.proofs.Common.{length}
use Rattle.world.specs.Machine.{list_of}
use Rattle.world.proofs.DiskLaws.{ReadsFront}
use Rattle.world.proofs.disk.read_disk.Given as goal

abbrev pub invariant-loop-sector : goal.invariant-loop-sector
invariant-loop-sector g l = ReadsFront (g.H.Host.outside l.initial.host) (g.H.Host.outside l.host)
    (length (list_of l.initial.store)) (list_of l.store) l.sector
