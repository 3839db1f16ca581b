use Rattle.monitor_state.proofs.Overlaid.{registered_sectors}
use Rattle.monitor_state.proofs.sectors.register_accesses_keep_the_sectors.Goals as goal

pub returns : goal.returns
returns c = registered_sectors
