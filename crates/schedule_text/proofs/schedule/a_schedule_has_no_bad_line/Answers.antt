use Rattle.schedule_text.proofs.Readings.{no_bad_line}
use Rattle.schedule_text.proofs.schedule.a_schedule_has_no_bad_line.Goals as goal

pub returns : goal.returns
returns c = record { none = no_bad_line }
