use Rattle.streaming.proofs.Requests.{asked_joins, others_join}
use Rattle.streaming.proofs.events.each_request_joins_the_requests.Goals as goal

pub returns-clause-asked : goal.returns-clause-asked
returns-clause-asked c = asked_joins

pub returns-clause-others : goal.returns-clause-others
returns-clause-others c = others_join
