use Rattle.streaming.proofs.Sourced.{stays_read, told_read}
use Rattle.streaming.proofs.sources.what_was_read_stays_read.Goals as goal

pub returns-clause-stays : goal.returns-clause-stays
returns-clause-stays c = stays_read

pub returns-clause-told : goal.returns-clause-told
returns-clause-told c = told_read
