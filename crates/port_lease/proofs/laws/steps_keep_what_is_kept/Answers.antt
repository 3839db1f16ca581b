use Rattle.port_lease.proofs.Steps.{step-kept, step-given}
use Rattle.port_lease.proofs.laws.steps_keep_what_is_kept.Goals as goal

pub returns-clause-kept : goal.returns-clause-kept
returns-clause-kept c = step-kept

pub returns-clause-given : goal.returns-clause-given
returns-clause-given c = step-given
