use Rattle.mediator.proofs.Between.{ready_in_time}
use Rattle.mediator.proofs.laws.a_monitor_is_ready_in_time.Goals as goal

pub returns : goal.returns
returns c = ready_in_time
