use Rattle.streaming.proofs.AtWork.{steps_take_none}
use Rattle.streaming.proofs.events.steps_take_no_command.Goals as goal

pub returns : goal.returns
returns c = steps_take_none
