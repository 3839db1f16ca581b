use Rattle.monitor_state.proofs.SeenSteps.{destage_unseen}
use Rattle.monitor_state.proofs.seen.destages_keep_what_is_seen.Goals as goal

pub returns : goal.returns
returns c = destage_unseen
