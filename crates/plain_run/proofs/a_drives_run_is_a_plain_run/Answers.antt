use Rattle.plain_run.proofs.Standing.{drives_run}
use Rattle.plain_run.proofs.a_drives_run_is_a_plain_run.Goals as goal

pub returns : goal.returns
returns c = drives_run
