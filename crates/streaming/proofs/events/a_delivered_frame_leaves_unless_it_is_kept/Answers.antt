use Rattle.streaming.proofs.OneEvent.{delivered_leaves, kept_stays}
use Rattle.streaming.proofs.events.a_delivered_frame_leaves_unless_it_is_kept.Goals as goal

pub returns-clause-left : goal.returns-clause-left
returns-clause-left c = λ sectors told old new entry count one. delivered_leaves one

pub returns-clause-kept : goal.returns-clause-kept
returns-clause-kept c = λ sectors told old new entry count one. kept_stays one
