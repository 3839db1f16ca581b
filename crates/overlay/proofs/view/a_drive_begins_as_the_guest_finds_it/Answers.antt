use Rattle.overlay.proofs.Starts.{survives_begins, values_begin}
use Rattle.overlay.proofs.view.a_drive_begins_as_the_guest_finds_it.Goals as goal

pub returns-clause-values : goal.returns-clause-values
returns-clause-values c = values_begin

pub returns-clause-survives : goal.returns-clause-survives
returns-clause-survives c = survives_begins
