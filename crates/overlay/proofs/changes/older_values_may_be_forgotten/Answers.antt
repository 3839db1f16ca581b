use Rattle.overlay.proofs.Survivals.{survives_forget, survives_of_ends}
use Rattle.overlay.proofs.Values.{values_forget, values_of_ends}
use Rattle.overlay.proofs.changes.older_values_may_be_forgotten.Goals as goal

pub returns-clause-values : goal.returns-clause-values
returns-clause-values c = values_forget

pub returns-clause-survives : goal.returns-clause-survives
returns-clause-survives c = survives_forget

pub returns-clause-values_of_ends : goal.returns-clause-values_of_ends
returns-clause-values_of_ends c = values_of_ends

pub returns-clause-survives_of_ends : goal.returns-clause-survives_of_ends
returns-clause-survives_of_ends c = survives_of_ends
