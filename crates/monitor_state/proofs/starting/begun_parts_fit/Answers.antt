use Rattle.monitor_state.proofs.Begun.{begun_fit, closed}
use Rattle.monitor_state.proofs.starting.begun_parts_fit.Goals as goal

pub returns-clause-fit : goal.returns-clause-fit
returns-clause-fit c = begun_fit

pub returns-clause-closed : goal.returns-clause-closed
returns-clause-closed c = closed
