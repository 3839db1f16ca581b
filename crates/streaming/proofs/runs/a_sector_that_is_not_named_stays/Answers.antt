use Rattle.streaming.proofs.Untouched.{unnamed_stays}
use Rattle.streaming.proofs.runs.a_sector_that_is_not_named_stays.Goals as goal

pub returns : goal.returns
returns c = unnamed_stays
