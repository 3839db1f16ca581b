use Rattle.std.proofs.Common.{subst, sym}
use Rattle.plain_drive.specs.Physical.{Physical, seen}
use Rattle.drive_model.specs.Drive.{physical_of}
use Rattle.port_lease.specs.View.{IsKept}
use Rattle.port_lease.proofs.Steps.{step-kept}
use Rattle.monitor_runs.proofs.handover.Guest.step.Goals as goal

pub invariant_of-self : goal.invariant_of-self
invariant_of-self c =
    let guest = c.args.self.now in
    record {
      kept = subst (λ (p : Physical). IsKept guest.side.view p.file) (sym c.step.ensures)
          (step-kept guest.side.view c.args.step (seen (physical_of guest.machine.drive guest.machine.memory))
          guest.kept);
    }
