use Rattle.own_pio.proofs.Stored.{stepped_kept, let_go_kept}
use Rattle.own_pio.proofs.laws.steps_keep_what_was_done.Goals as goal

pub returns-clause-stepped : goal.returns-clause-stepped
returns-clause-stepped c = stepped_kept

pub returns-clause-let_go : goal.returns-clause-let_go
returns-clause-let_go c = let_go_kept
