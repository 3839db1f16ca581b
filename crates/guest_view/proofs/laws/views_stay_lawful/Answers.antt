use Rattle.guest_view.proofs.StaysFit.{fits_after}
use Rattle.guest_view.proofs.laws.views_stay_lawful.Goals as goal

pub returns : goal.returns
returns c = fits_after
