use Rattle.monitor_state.proofs.Showing.{one_is_seen}
use Rattle.monitor_state.proofs.seen.a_plain_drive_can_be_seen.Goals as goal

pub returns : goal.returns
returns c = one_is_seen
