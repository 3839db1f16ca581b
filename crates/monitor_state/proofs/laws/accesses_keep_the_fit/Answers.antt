use Rattle.monitor_state.proofs.DriveAccessed.{monitor_fits, raising_fits, running_fits, still_at_work}
use Rattle.monitor_state.proofs.laws.accesses_keep_the_fit.Goals as goal

pub returns-clause-monitor : goal.returns-clause-monitor
returns-clause-monitor c a old new p d runs is = monitor_fits a old new p d runs is

pub returns-clause-running : goal.returns-clause-running
returns-clause-running c a old new own why p d runs is = running_fits a old new p d runs is own why

pub returns-clause-raising : goal.returns-clause-raising
returns-clause-raising c a old new dummy planned p d runs is = raising_fits a old new p d runs is dummy planned

pub returns-clause-between : goal.returns-clause-between
returns-clause-between c a old new dummy planned d runs at_work = still_at_work a old d at_work
