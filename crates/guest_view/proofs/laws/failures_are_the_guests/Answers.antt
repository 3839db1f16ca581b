use Rattle.guest_view.proofs.DriveSteps.{failure_stepped, failure_acts}
use Rattle.guest_view.proofs.laws.failures_are_the_guests.Goals as goal

pub returns-clause-same : goal.returns-clause-same
returns-clause-same c = failure_stepped

pub returns-clause-acts : goal.returns-clause-acts
returns-clause-acts c = failure_acts
