use Rattle.overlay.proofs.Survivals.{survives_under_image}
use Rattle.overlay.proofs.Values.{values_under_image}
use Rattle.overlay.proofs.changes.a_write_to_an_empty_block_is_unseen.Goals as goal

pub returns-clause-values : goal.returns-clause-values
returns-clause-values c = values_under_image

pub returns-clause-survives : goal.returns-clause-survives
returns-clause-survives c = survives_under_image
