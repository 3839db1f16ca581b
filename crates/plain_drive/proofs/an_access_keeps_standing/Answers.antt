use Rattle.plain_drive.proofs.Standing.{access_stands}
use Rattle.plain_drive.proofs.an_access_keeps_standing.Goals as goal

pub returns : goal.returns
returns c = λ a physical p stands. access_stands physical p stands a
