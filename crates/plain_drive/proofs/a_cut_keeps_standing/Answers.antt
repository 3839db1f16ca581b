use Rattle.plain_drive.proofs.Standing.{cut_stands}
use Rattle.plain_drive.proofs.a_cut_keeps_standing.Goals as goal

pub returns : goal.returns
returns c = λ memory physical p stands. cut_stands physical p stands memory
