use Rattle.port_lease.proofs.Steps.{step-free}
use Rattle.port_lease.proofs.laws.steps_leave_a_free_drive.Goals as goal

pub returns : goal.returns
returns c = step-free
