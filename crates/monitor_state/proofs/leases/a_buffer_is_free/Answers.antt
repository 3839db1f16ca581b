use Rattle.monitor_state.proofs.Pool.{buffer_free}
use Rattle.monitor_state.proofs.leases.a_buffer_is_free.Goals as goal

pub returns : goal.returns
returns c = buffer_free
