use Rattle.plain_drive.proofs.SectorValues.{current_held, values_held}
use Rattle.plain_drive.proofs.bytes.sectors_are_held_whole.Goals as goal

pub returns-clause-values : goal.returns-clause-values
returns-clause-values c = values_held

pub returns-clause-current : goal.returns-clause-current
returns-clause-current c = current_held
