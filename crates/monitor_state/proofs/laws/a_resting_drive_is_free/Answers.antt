use Rattle.monitor_state.proofs.Standing.{opened_free, unbusy_free}
use Rattle.monitor_state.proofs.laws.a_resting_drive_is_free.Goals as goal

pub returns-clause-opened : goal.returns-clause-opened
returns-clause-opened c = opened_free

pub returns-clause-unbusy : goal.returns-clause-unbusy
returns-clause-unbusy c = unbusy_free
