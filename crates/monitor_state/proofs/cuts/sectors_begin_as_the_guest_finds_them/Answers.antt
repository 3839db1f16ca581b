use Rattle.monitor_state.proofs.Openings.{begun_sectors}
use Rattle.monitor_state.proofs.cuts.sectors_begin_as_the_guest_finds_them.Goals as goal

pub returns : goal.returns
returns c = begun_sectors
