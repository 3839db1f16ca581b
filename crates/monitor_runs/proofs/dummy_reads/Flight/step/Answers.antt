use Rattle.std.proofs.Common.{subst, sym}
use Rattle.plain_drive.specs.Step.{acts, stepped_if}
use Rattle.plain_drive.specs.Physical.{Physical, seen, physical_step}
use Rattle.plain_drive.proofs.Seen.{step_seen}
use Rattle.drive_model.specs.Drive.{physical_of}
use Rattle.dummy_read.specs.Flight.{IsInFlight}
use Rattle.dummy_read.proofs.Steps.{stepped_flies}
use Rattle.monitor_runs.proofs.dummy_reads.Flight.step.Goals as goal

pub invariant_of-self : goal.invariant_of-self
invariant_of-self c =
    let f = c.args.self.now in
    let p = physical_of f.machine.drive f.machine.memory in
    record {
      flies = λ e. subst (λ (q : Physical). IsInFlight f.dummy.sector f.dummy.cancelled (seen q).device)
          (sym c.step.ensures)
          (stepped_flies f.dummy.sector f.dummy.cancelled c.args.step (stepped_if (acts c.args.step (seen p)))
          (seen p) (seen (physical_step c.args.step p)) (f.flies e) (step_seen c.args.step p));
    }
