use Rattle.monitor_state.proofs.Standing.{cut_fits, power_on_fits}
use Rattle.monitor_state.proofs.laws.a_drive_at_power_on_fits.Goals as goal

pub returns-clause-begun : goal.returns-clause-begun
returns-clause-begun c = power_on_fits

pub returns-clause-cut : goal.returns-clause-cut
returns-clause-cut c = cut_fits
