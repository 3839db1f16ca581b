use Rattle.plain_drive.proofs.Standing.{step_stands}
use Rattle.plain_drive.proofs.a_step_keeps_standing.Goals as goal

pub returns : goal.returns
returns c = λ s physical p stands. step_stands physical p stands s
