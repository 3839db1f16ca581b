use Rattle.std.proofs.Common.{ℕ, length, subst, sym}
use Rattle.ata_taskfile.specs.Lawful.{IsLawfulState}
use Rattle.plain_drive.specs.Step.{acts, stepped_if}
use Rattle.plain_drive.specs.Physical.{Physical, seen, physical_step}
use Rattle.plain_drive.proofs.Seen.{step_seen}
use Rattle.drive_model.specs.Drive.{physical_of}
use Rattle.own_pio.specs.Own.{job_of, done_of}
use Rattle.own_pio.specs.Running.{IsRunning}
use Rattle.own_pio.proofs.Steps.{stepped_running}
use Rattle.monitor_runs.proofs.own_commands.step.Goals as goal

pub returns : goal.returns
returns c =
    let own = c.args.own.now in
    let d = c.args.machine.now.drive in
    let p = physical_of d c.args.machine.now.memory in
    let P : ℕ → Type 0 = λ n. IsLawfulState d.file d.bus n (length d.sectors.store.sectors.items) in
    subst (λ (q : Physical). IsRunning (job_of own) (done_of own) (seen q).device) (sym c.step.ensures)
    (stepped_running (job_of own) (done_of own) c.args.step (stepped_if (acts c.args.step (seen p))) (seen p)
    (seen (physical_step c.args.step p)) own.fit (subst P (sym d.counted) d.lawful) c.requires
    (step_seen c.args.step p))
