use Rattle.bg_copy.proofs.Waiting.{not_ready}
use Rattle.bg_copy.proofs.laws.nothing_is_allowed_before_the_ready.Goals as goal

pub returns : goal.returns
returns c = not_ready
