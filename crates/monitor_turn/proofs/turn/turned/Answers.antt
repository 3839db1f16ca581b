use Rattle.monitor_turn.proofs.turn.turned.Goals as goal

pub returns-in-Running-clause-shown : goal.returns-in-Running-clause-shown
returns-in-Running-clause-shown g c = rw c.in-Running.is (c.polled.ensures.shown c.args.memory.now)
