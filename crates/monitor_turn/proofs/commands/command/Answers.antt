use Rattle.monitor_turn.proofs.commands.command.Goals as goal

pub returns-then-parts-clause-shown : goal.returns-then-parts-clause-shown
returns-then-parts-clause-shown g c = c.raise.ensures.shown c.args.memory.now

pub returns-then-is_some-clause-shown : goal.returns-then-is_some-clause-shown
returns-then-is_some-clause-shown g c = c.redirected.ensures.shown
