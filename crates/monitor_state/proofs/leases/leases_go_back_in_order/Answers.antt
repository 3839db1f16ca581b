use Rattle.monitor_state.proofs.Pool.{parts_leased, state_leased}
use Rattle.monitor_state.proofs.leases.leases_go_back_in_order.Goals as goal

pub returns-clause-state : goal.returns-clause-state
returns-clause-state c = state_leased

pub returns-clause-parts : goal.returns-clause-parts
returns-clause-parts c = parts_leased
