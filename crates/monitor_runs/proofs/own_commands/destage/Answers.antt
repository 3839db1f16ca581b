use Rattle.std.proofs.Common.{subst, sym}
use Rattle.plain_drive.specs.Physical.{Physical, seen, physical_destaged}
use Rattle.plain_drive.proofs.Seen.{destage_seen}
use Rattle.drive_model.specs.Drive.{physical_of}
use Rattle.own_pio.specs.Own.{job_of, done_of}
use Rattle.own_pio.specs.Running.{IsRunning}
use Rattle.own_pio.proofs.Steps.{let_go_running}
use Rattle.monitor_runs.proofs.own_commands.destage.Goals as goal

pub returns : goal.returns
returns c =
    let own = c.args.own.now in
    let p = physical_of c.args.machine.now.drive c.args.machine.now.memory in
    subst (λ (q : Physical). IsRunning (job_of own) (done_of own) (seen q).device) (sym c.destage.ensures)
    (let_go_running (job_of own) (done_of own) (seen p) (seen (physical_destaged 0 p)) c.requires (destage_seen 0 p))
