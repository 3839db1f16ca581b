use Rattle.plain_run.proofs.Plans.{followed_is_planned, planned_is_followed}
use Rattle.plain_run.proofs.a_plan_is_followed.Goals as goal

pub returns : goal.returns
returns c = λ items old new. (followed_is_planned items old new, planned_is_followed items old new)
