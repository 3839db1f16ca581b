use Rattle.plain_drive.proofs.EndsOfEnds.{ends-forget}
use Rattle.plain_drive.proofs.caching.ends_forget_older_values.Goals as goal

pub returns : goal.returns
returns c = ends-forget
