use Rattle.overlay.proofs.Survivals.{survives_written}
use Rattle.overlay.proofs.Values.{values_written}
use Rattle.overlay.proofs.changes.a_write_to_both_is_kept.Goals as goal

pub returns-clause-values : goal.returns-clause-values
returns-clause-values c = values_written

pub returns-clause-survives : goal.returns-clause-survives
returns-clause-survives c = survives_written
