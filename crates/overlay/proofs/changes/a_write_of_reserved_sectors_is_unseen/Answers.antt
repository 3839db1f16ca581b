use Rattle.overlay.proofs.Survivals.{survives_above}
use Rattle.overlay.proofs.Values.{values_above}
use Rattle.overlay.proofs.changes.a_write_of_reserved_sectors_is_unseen.Goals as goal

pub returns-clause-values : goal.returns-clause-values
returns-clause-values c = values_above

pub returns-clause-survives : goal.returns-clause-survives
returns-clause-survives c = survives_above
