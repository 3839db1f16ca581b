use Rattle.bg_copy.proofs.Waiting.{quiet_allows}
use Rattle.bg_copy.proofs.laws.quiet_ticks_allow_copying.Goals as goal

pub returns : goal.returns
returns c = quiet_allows
