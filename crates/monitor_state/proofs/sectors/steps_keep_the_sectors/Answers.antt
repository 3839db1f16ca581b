use Rattle.monitor_state.proofs.OverlaidSteps.{guests_step_sectors, let_go_sectors, monitors_step_sectors}
use Rattle.monitor_state.proofs.sectors.steps_keep_the_sectors.Goals as goal

pub returns-clause-guest : goal.returns-clause-guest
returns-clause-guest c = guests_step_sectors

pub returns-clause-monitor : goal.returns-clause-monitor
returns-clause-monitor c = monitors_step_sectors

pub returns-clause-let_go : goal.returns-clause-let_go
returns-clause-let_go c = let_go_sectors
