use Rattle.plain_drive.proofs.Standing.{durable_are_outcome}
use Rattle.plain_drive.proofs.durable_sectors_are_an_outcome.Goals as goal

pub returns : goal.returns
returns c = durable_are_outcome
