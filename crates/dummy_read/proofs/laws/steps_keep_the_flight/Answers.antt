use Rattle.dummy_read.proofs.Steps.{stepped_flies, let_go_flies}
use Rattle.dummy_read.proofs.laws.steps_keep_the_flight.Goals as goal

pub returns-clause-stepped : goal.returns-clause-stepped
returns-clause-stepped c = stepped_flies

pub returns-clause-let_go : goal.returns-clause-let_go
returns-clause-let_go c = let_go_flies
