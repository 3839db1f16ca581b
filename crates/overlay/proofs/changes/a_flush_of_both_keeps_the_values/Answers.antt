use Rattle.overlay.proofs.Survivals.{survives_flushed}
use Rattle.overlay.proofs.Values.{values_flushed}
use Rattle.overlay.proofs.changes.a_flush_of_both_keeps_the_values.Goals as goal

pub returns-clause-values : goal.returns-clause-values
returns-clause-values c = values_flushed

pub returns-clause-survives : goal.returns-clause-survives
returns-clause-survives c = survives_flushed
