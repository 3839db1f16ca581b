use Rattle.plain_run.proofs.Sectors.{run_length, run_sectors}
use Rattle.plain_run.proofs.a_run_keeps_the_count_of_sectors.Goals as goal

pub returns-clause-kept : goal.returns-clause-kept
returns-clause-kept c = λ start now entries run. run_length start now entries run

pub returns-clause-said : goal.returns-clause-said
returns-clause-said c = λ start now entries run. run_sectors start now entries run
