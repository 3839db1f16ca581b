use Rattle.plain_run.proofs.Named.{only_named}
use Rattle.plain_run.proofs.only_named_sectors_change.Goals as goal

pub returns : goal.returns
returns c = only_named
