use Rattle.monitor_state.proofs.AfterAccess.{monitor_kept, running_kept, raising_kept}
use Rattle.monitor_state.proofs.laws.accesses_keep_the_parts.Goals as goal

pub returns-clause-monitor : goal.returns-clause-monitor
returns-clause-monitor c a old new p runs is = monitor_kept a old new p runs is

pub returns-clause-running : goal.returns-clause-running
returns-clause-running c a old new own why p runs is = running_kept a old new p runs is own why

pub returns-clause-raising : goal.returns-clause-raising
returns-clause-raising c a old new dummy planned p runs is = raising_kept a old new p runs is dummy planned
