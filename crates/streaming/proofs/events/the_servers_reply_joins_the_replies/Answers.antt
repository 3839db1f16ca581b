use Rattle.streaming.proofs.OneEvent.{reply_joins, silence_stays}
use Rattle.streaming.proofs.events.the_servers_reply_joins_the_replies.Goals as goal

pub returns-clause-replied : goal.returns-clause-replied
returns-clause-replied c = λ sectors image old new entry count one. reply_joins one

pub returns-clause-silent : goal.returns-clause-silent
returns-clause-silent c = λ sectors image old new entry count one. silence_stays one
