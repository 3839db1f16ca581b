use Rattle.monitor_state.proofs.SourcesStay.{lines_keep, asking_keeps, let_go_keeps}
use Rattle.monitor_state.proofs.sourced.sources_stay.Goals as goal

pub returns-clause-lines : goal.returns-clause-lines
returns-clause-lines c = lines_keep

pub returns-clause-asking : goal.returns-clause-asking
returns-clause-asking c = asking_keeps

pub returns-clause-let_go : goal.returns-clause-let_go
returns-clause-let_go c = let_go_keeps
