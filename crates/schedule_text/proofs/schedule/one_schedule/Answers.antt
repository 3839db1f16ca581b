use Rattle.schedule_text.proofs.Readings.{schedule_once}
use Rattle.schedule_text.proofs.schedule.one_schedule.Goals as goal

pub returns : goal.returns
returns c = record { once = schedule_once }
