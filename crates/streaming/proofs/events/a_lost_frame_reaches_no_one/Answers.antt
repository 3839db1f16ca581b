use Rattle.streaming.proofs.OneEvent.{lost_leaves, lost_uncounted}
use Rattle.streaming.proofs.events.a_lost_frame_reaches_no_one.Goals as goal

pub returns-clause-network : goal.returns-clause-network
returns-clause-network c = λ sectors told old new entry count one. lost_leaves one

pub returns-clause-count : goal.returns-clause-count
returns-clause-count c = λ sectors told old new entry count one. lost_uncounted one
