use Rattle.monitor_state.proofs.SourcesStay.{lines_asked, asking_asked}
use Rattle.monitor_state.proofs.sourced.what_is_asked_was_asked_for.Goals as goal

pub returns-clause-lines : goal.returns-clause-lines
returns-clause-lines c = lines_asked

pub returns-clause-asking : goal.returns-clause-asking
returns-clause-asking c = asking_asked
