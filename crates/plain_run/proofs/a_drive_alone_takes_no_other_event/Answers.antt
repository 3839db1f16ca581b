use Rattle.plain_run.proofs.Still.{still_alone, still_untold}
use Rattle.plain_run.proofs.a_drive_alone_takes_no_other_event.Goals as goal

pub returns-clause-unmoved : goal.returns-clause-unmoved
returns-clause-unmoved c = still_alone

pub returns-clause-untold : goal.returns-clause-untold
returns-clause-untold c = still_untold
