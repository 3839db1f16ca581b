use Rattle.plain_drive.proofs.Seen.{step_seen, destage_seen, cut_seen}
use Rattle.plain_drive.proofs.caching.a_physical_drive_is_seen.Goals as goal

pub returns-clause-step : goal.returns-clause-step
returns-clause-step c = step_seen

pub returns-clause-destage : goal.returns-clause-destage
returns-clause-destage c = destage_seen

pub returns-clause-cut : goal.returns-clause-cut
returns-clause-cut c = cut_seen
