use Rattle.mediator.proofs.Between.{destaged_couples}
use Rattle.mediator.proofs.laws.a_destage_keeps_the_plain_drive.Goals as goal

pub returns : goal.returns
returns c = destaged_couples
