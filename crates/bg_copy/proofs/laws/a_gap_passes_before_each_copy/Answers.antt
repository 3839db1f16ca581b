use Rattle.bg_copy.proofs.Waiting.{gap_since_ready, gap_since_copy}
use Rattle.bg_copy.proofs.laws.a_gap_passes_before_each_copy.Goals as goal

pub returns-clause-ready : goal.returns-clause-ready
returns-clause-ready c = gap_since_ready

pub returns-clause-copy : goal.returns-clause-copy
returns-clause-copy c = gap_since_copy
