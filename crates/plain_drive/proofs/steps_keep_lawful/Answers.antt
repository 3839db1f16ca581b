use Rattle.plain_drive.proofs.KeepsLawful.{step_made-lawful}
use Rattle.plain_drive.proofs.steps_keep_lawful.Goals as goal

pub returns : goal.returns
returns c = step_made-lawful
