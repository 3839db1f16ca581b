use Rattle.overlay.proofs.Cuts.{view_survives}
use Rattle.overlay.proofs.view.what_survives_is_an_outcome.Goals as goal

pub returns : goal.returns
returns c = view_survives
