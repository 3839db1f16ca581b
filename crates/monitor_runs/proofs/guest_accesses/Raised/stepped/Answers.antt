use Rattle.std.proofs.Common.{false, subst, sym}
use Rattle.plain_drive.specs.Step.{acts, stepped_if}
use Rattle.plain_drive.specs.Physical.{Physical, seen, physical_step}
use Rattle.plain_drive.proofs.Seen.{step_seen}
use Rattle.drive_model.specs.Drive.{physical_of, device_of}
use Rattle.dummy_read.specs.Flight.{IsInFlight}
use Rattle.dummy_read.proofs.Steps.{stepped_flies}
use Rattle.monitor_runs.proofs.guest_accesses.Raised.stepped.Goals as goal

pub poll-ended-requires : goal.poll-ended-requires
poll-ended-requires c =
    let f = c.args.self in
    let p = physical_of f.machine.drive f.machine.memory in
    record {
      flies = subst (λ cancelled. IsInFlight f.dummy.sector cancelled (device_of c.step.new.self.drive))
          (sym f.uncancelled)
          (subst (λ (q : Physical). IsInFlight f.dummy.sector false (seen q).device) (sym c.step.ensures)
          (stepped_flies f.dummy.sector false c.args.step (stepped_if (acts c.args.step (seen p))) (seen p)
          (seen (physical_step c.args.step p)) f.flies (step_seen c.args.step p)));
    }
