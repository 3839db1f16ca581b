use Rattle.monitor_state.proofs.Raised.{raised_fits}
use Rattle.monitor_state.proofs.in_hand.a_raised_interrupt_fits.Goals as goal

pub returns : goal.returns
returns c = raised_fits
