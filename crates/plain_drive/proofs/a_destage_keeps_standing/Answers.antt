use Rattle.plain_drive.proofs.Standing.{destage_stands}
use Rattle.plain_drive.proofs.a_destage_keeps_standing.Goals as goal

pub returns : goal.returns
returns c = λ n physical p stands. destage_stands physical p stands n
