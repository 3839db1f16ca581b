use Rattle.guest_view.proofs.DriveSteps.{offer_stepped, offer_acts}
use Rattle.guest_view.proofs.laws.offered_blocks_are_the_guests.Goals as goal

pub returns-clause-same : goal.returns-clause-same
returns-clause-same c = offer_stepped

pub returns-clause-acts : goal.returns-clause-acts
returns-clause-acts c = offer_acts
