use Rattle.streaming.proofs.Sourced.{stays_asked, asks_now, stays_come, comes_now}
use Rattle.streaming.proofs.sources.what_has_come_stays.Goals as goal

pub returns-clause-asked : goal.returns-clause-asked
returns-clause-asked c = stays_asked

pub returns-clause-asks : goal.returns-clause-asks
returns-clause-asks c = asks_now

pub returns-clause-stays : goal.returns-clause-stays
returns-clause-stays c = stays_come

pub returns-clause-comes : goal.returns-clause-comes
returns-clause-comes c = comes_now
