use Rattle.world.specs.Machine.{physical}
use Rattle.world.proofs.DiskLaws.{WritesFront}
use Rattle.world.proofs.disk.write_out.Given as goal

abbrev pub invariant-loop-sector : goal.invariant-loop-sector
invariant-loop-sector g l = WritesFront (g.H.Host.outside l.initial.host) (g.H.Host.outside l.host)
    (physical l.initial.machine) (physical l.machine) l.piece.items l.sector
