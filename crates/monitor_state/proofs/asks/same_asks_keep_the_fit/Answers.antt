use Rattle.monitor_state.proofs.SameAsks.{asks_keep_fit, asks_keep_parts}
use Rattle.monitor_state.proofs.asks.same_asks_keep_the_fit.Goals as goal

pub returns-clause-parts : goal.returns-clause-parts
returns-clause-parts c s old new same fits = asks_keep_parts s old new same fits

pub returns-clause-fits : goal.returns-clause-fits
returns-clause-fits c s old new d same fits = asks_keep_fit s old new d same fits
