use Rattle.streaming.proofs.OneEvent.{quiet_stays, quiet_uncounted}
use Rattle.streaming.proofs.events.an_event_without_network_changes_nothing.Goals as goal

pub returns-clause-network : goal.returns-clause-network
returns-clause-network c = λ sectors told old new entry count one. quiet_stays one

pub returns-clause-count : goal.returns-clause-count
returns-clause-count c = λ sectors told old new entry count one. quiet_uncounted one
