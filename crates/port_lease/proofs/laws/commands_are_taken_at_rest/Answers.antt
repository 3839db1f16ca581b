use Rattle.port_lease.proofs.Resting.{taken_at_rest}
use Rattle.port_lease.proofs.laws.commands_are_taken_at_rest.Goals as goal

pub returns : goal.returns
returns c = taken_at_rest
