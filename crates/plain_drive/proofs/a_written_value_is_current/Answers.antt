use Rattle.plain_drive.proofs.Cells.{appended-current, appended-others}
use Rattle.plain_drive.proofs.a_written_value_is_current.Goals as goal

pub returns : goal.returns
returns c = record { read = appended-current; others = appended-others }
