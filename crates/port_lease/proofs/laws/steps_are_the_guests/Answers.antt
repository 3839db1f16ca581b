use Rattle.port_lease.proofs.GuestSteps.{acts_seen, step_seen}
use Rattle.port_lease.proofs.laws.steps_are_the_guests.Goals as goal

pub returns-clause-same : goal.returns-clause-same
returns-clause-same c = step_seen

pub returns-clause-acts : goal.returns-clause-acts
returns-clause-acts c = acts_seen
