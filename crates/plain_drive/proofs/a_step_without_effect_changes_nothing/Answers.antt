use Rattle.plain_drive.proofs.Steps.{step_made_no}
use Rattle.plain_drive.proofs.a_step_without_effect_changes_nothing.Goals as goal

pub returns : goal.returns
returns c = step_made_no
