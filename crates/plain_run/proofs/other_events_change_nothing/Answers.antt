use Rattle.plain_run.proofs.Still.{still_tick, still_unmoved, still_unanswered}
use Rattle.plain_run.proofs.other_events_change_nothing.Goals as goal

pub returns-clause-unmoved : goal.returns-clause-unmoved
returns-clause-unmoved c = still_unmoved

pub returns-clause-tick : goal.returns-clause-tick
returns-clause-tick c = still_tick

pub returns-clause-unanswered : goal.returns-clause-unanswered
returns-clause-unanswered c = still_unanswered
