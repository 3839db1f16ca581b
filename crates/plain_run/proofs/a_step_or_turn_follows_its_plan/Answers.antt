use Rattle.plain_run.proofs.Still.{stepped_follows, turn_planned}
use Rattle.plain_run.proofs.a_step_or_turn_follows_its_plan.Goals as goal

pub returns-clause-followed : goal.returns-clause-followed
returns-clause-followed c = stepped_follows

pub returns-clause-turn : goal.returns-clause-turn
returns-clause-turn c = turn_planned
