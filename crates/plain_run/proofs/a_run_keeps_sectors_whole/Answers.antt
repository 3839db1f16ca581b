use Rattle.plain_run.proofs.Named.{run_whole}
use Rattle.plain_run.proofs.a_run_keeps_sectors_whole.Goals as goal

pub returns : goal.returns
returns c = run_whole
