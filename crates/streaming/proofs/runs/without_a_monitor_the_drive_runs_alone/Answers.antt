use Rattle.streaming.proofs.Scenes.{drive_alone}
use Rattle.streaming.proofs.runs.without_a_monitor_the_drive_runs_alone.Goals as goal

pub returns : goal.returns
returns c = drive_alone
