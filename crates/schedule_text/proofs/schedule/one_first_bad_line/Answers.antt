use Rattle.schedule_text.proofs.Readings.{bad_line_once}
use Rattle.schedule_text.proofs.schedule.one_first_bad_line.Goals as goal

pub returns : goal.returns
returns c = record { once = bad_line_once }
