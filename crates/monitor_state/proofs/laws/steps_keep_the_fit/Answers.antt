use Rattle.monitor_state.proofs.Steps.{let_go_fits, stepped_fits}
use Rattle.monitor_state.proofs.laws.steps_keep_the_fit.Goals as goal

pub returns-clause-stepped : goal.returns-clause-stepped
returns-clause-stepped c = stepped_fits

pub returns-clause-let_go : goal.returns-clause-let_go
returns-clause-let_go c = let_go_fits
