use Rattle.world.proofs.events.destage.Goals as goal

pub returns : goal.returns
returns c = record { after = (rw c.unwrap.ensures at c.destage.ensures.after) c.args.machine.now.memory }
