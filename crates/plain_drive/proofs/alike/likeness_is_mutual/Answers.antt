use Rattle.plain_drive.proofs.Likeness.{alike_itself, alike_back}
use Rattle.plain_drive.proofs.alike.likeness_is_mutual.Goals as goal

pub returns-clause-itself : goal.returns-clause-itself
returns-clause-itself c = alike_itself

pub returns-clause-back : goal.returns-clause-back
returns-clause-back c = alike_back
