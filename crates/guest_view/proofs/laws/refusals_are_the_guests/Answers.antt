use Rattle.guest_view.proofs.DriveSteps.{refusal_stepped, refusal_acts}
use Rattle.guest_view.proofs.laws.refusals_are_the_guests.Goals as goal

pub returns-clause-same : goal.returns-clause-same
returns-clause-same c = refusal_stepped

pub returns-clause-acts : goal.returns-clause-acts
returns-clause-acts c = refusal_acts
