use Rattle.plain_drive.proofs.Standing.{fresh_stands}
use Rattle.plain_drive.proofs.a_fresh_drive_stands_for_a_plain_one.Goals as goal

pub returns : goal.returns
returns c = fresh_stands
