use Rattle.std.proofs.Common.{subst, sym}
use Rattle.plain_drive.specs.Physical.{Physical, seen, physical_destaged}
use Rattle.plain_drive.proofs.Seen.{destage_seen}
use Rattle.drive_model.specs.Drive.{physical_of}
use Rattle.dummy_read.specs.Flight.{IsInFlight}
use Rattle.dummy_read.proofs.Steps.{let_go_flies}
use Rattle.monitor_runs.proofs.dummy_reads.Flight.destage.Goals as goal

pub invariant_of-self : goal.invariant_of-self
invariant_of-self c =
    let f = c.args.self.now in
    let p = physical_of f.machine.drive f.machine.memory in
    record {
      flies = λ e. subst (λ (q : Physical). IsInFlight f.dummy.sector f.dummy.cancelled (seen q).device)
          (sym c.destage.ensures)
          (let_go_flies f.dummy.sector f.dummy.cancelled (seen p) (seen (physical_destaged 0 p)) (f.flies e)
          (destage_seen 0 p));
    }
