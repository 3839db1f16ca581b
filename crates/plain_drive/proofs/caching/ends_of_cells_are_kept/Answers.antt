use Rattle.plain_drive.proofs.EndsOfEnds.{ends-same, ends-ends, ends-appended, ends-flushed}
use Rattle.plain_drive.proofs.caching.ends_of_cells_are_kept.Goals as goal

pub returns-clause-same : goal.returns-clause-same
returns-clause-same c = ends-same

pub returns-clause-ends : goal.returns-clause-ends
returns-clause-ends c = ends-ends

pub returns-clause-write : goal.returns-clause-write
returns-clause-write c = ends-appended

pub returns-clause-flush : goal.returns-clause-flush
returns-clause-flush c = ends-flushed
