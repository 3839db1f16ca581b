use Rattle.monitor_turn.proofs.turn.monitor.Goals as goal

pub returns-in-Opening-clause-shown : goal.returns-in-Opening-clause-shown
returns-in-Opening-clause-shown g c = c.opening_next.ensures.shown c.args.memory.now

pub returns-in-Restart-clause-shown : goal.returns-in-Restart-clause-shown
returns-in-Restart-clause-shown g c = c.restarted.ensures.shown c.args.memory.now
