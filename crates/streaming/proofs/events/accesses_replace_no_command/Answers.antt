use Rattle.streaming.proofs.AtWork.{begins_none}
use Rattle.streaming.proofs.events.accesses_replace_no_command.Goals as goal

pub returns : goal.returns
returns c = begins_none
