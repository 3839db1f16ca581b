use Rattle.monitor_state.proofs.ViewSteps.{failed_empty, finished_empty, refused_empty}
use Rattle.monitor_state.proofs.in_hand.planned_ends_leave_an_empty_hand.Goals as goal

pub returns-clause-finished : goal.returns-clause-finished
returns-clause-finished c = finished_empty

pub returns-clause-failed : goal.returns-clause-failed
returns-clause-failed c = failed_empty

pub returns-clause-refused : goal.returns-clause-refused
returns-clause-refused c phase v p fits has = (refused_empty phase v p fits has).0

pub returns-clause-fresh : goal.returns-clause-fresh
returns-clause-fresh c phase v p fits has = (refused_empty phase v p fits has).1
