use Rattle.monitor_state.proofs.Standing.{monitor_in_step, raising_in_step, running_calm, running_in_step}
use Rattle.monitor_state.proofs.laws.views_are_in_step.Goals as goal

pub returns-clause-monitor : goal.returns-clause-monitor
returns-clause-monitor c = monitor_in_step

pub returns-clause-running : goal.returns-clause-running
returns-clause-running c = running_in_step

pub returns-clause-raising : goal.returns-clause-raising
returns-clause-raising c = raising_in_step

pub returns-clause-calm : goal.returns-clause-calm
returns-clause-calm c = running_calm
