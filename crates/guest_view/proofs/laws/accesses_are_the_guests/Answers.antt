use Rattle.guest_view.proofs.OneDevice.{monitored}
use Rattle.guest_view.proofs.StaysInStep.{in_step}
use Rattle.guest_view.proofs.laws.accesses_are_the_guests.Goals as goal

pub returns-clause-same : goal.returns-clause-same
returns-clause-same c = monitored

pub returns-clause-step : goal.returns-clause-step
returns-clause-step c = in_step
