use Rattle.monitor_state.proofs.Openings.{opened_header}
use Rattle.monitor_state.proofs.cuts.an_opened_drive_has_its_header.Goals as goal

pub returns : goal.returns
returns c = opened_header
