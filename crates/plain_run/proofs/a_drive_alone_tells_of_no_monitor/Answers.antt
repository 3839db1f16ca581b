use Rattle.plain_run.proofs.Alone.{event_alone}
use Rattle.plain_run.proofs.a_drive_alone_tells_of_no_monitor.Goals as goal

pub returns : goal.returns
returns c = event_alone
