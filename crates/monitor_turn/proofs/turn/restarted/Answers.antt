use Rattle.monitor_turn.proofs.StepSources.{reset_sources}
use Rattle.monitor_turn.proofs.turn.restarted.Goals as goal

pub returns-clause-sources : goal.returns-clause-sources
returns-clause-sources g c = reset_sources c.args.side _ c.args.parts.now _ c.requires.resets
