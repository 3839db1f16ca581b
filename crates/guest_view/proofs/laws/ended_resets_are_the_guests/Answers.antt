use Rattle.guest_view.proofs.DriveSteps.{reset_stepped, reset_acts}
use Rattle.guest_view.proofs.laws.ended_resets_are_the_guests.Goals as goal

pub returns-clause-same : goal.returns-clause-same
returns-clause-same c = reset_stepped

pub returns-clause-acts : goal.returns-clause-acts
returns-clause-acts c = reset_acts
