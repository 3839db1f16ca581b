use Rattle.plain_drive.proofs.Words.{identity-length}
use Rattle.plain_drive.proofs.identify_gives_a_block.Goals as goal

pub returns : goal.returns
returns c = identity-length 256
