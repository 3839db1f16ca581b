use Rattle.plain_drive.proofs.Outcomes.{current_are_outcome}
use Rattle.plain_drive.proofs.current_values_are_an_outcome.Goals as goal

pub returns : goal.returns
returns c = current_are_outcome
