use Rattle.own_pio.proofs.Steps.{stepped_running, let_go_running}
use Rattle.own_pio.proofs.laws.steps_keep_running.Goals as goal

pub returns-clause-stepped : goal.returns-clause-stepped
returns-clause-stepped c = stepped_running

pub returns-clause-let_go : goal.returns-clause-let_go
returns-clause-let_go c = let_go_running
