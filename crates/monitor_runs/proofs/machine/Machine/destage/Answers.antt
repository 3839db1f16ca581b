use Rattle.monitor_runs.proofs.machine.Machine.destage.Goals as goal

pub returns-in-Ok : goal.returns-in-Ok
returns-in-Ok c = c.in-Ok.ensures.after c.args.self.now.memory
