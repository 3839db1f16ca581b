use Rattle.std.proofs.Common.{subst, sym}
use Rattle.ata_taskfile.specs.Device.{Device}
use Rattle.drive_model.specs.Drive.{device_of}
use Rattle.port_lease.specs.View.{IsKept}
use Rattle.monitor_runs.proofs.SideRuns.{command_keeps}
use Rattle.monitor_runs.proofs.handover.Guest.write_command.Goals as goal

pub invariant_of-self : goal.invariant_of-self
invariant_of-self c =
    let guest = c.args.self.now in
    record {
      kept = subst (λ (d : Device). IsKept guest.side.view d.file) (sym c.write.ensures)
          (command_keeps guest.side.view c.args.command (device_of guest.machine.drive) c.requires guest.kept);
    }
