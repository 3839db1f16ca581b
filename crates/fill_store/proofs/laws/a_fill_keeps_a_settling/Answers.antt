use Rattle.fill_store.proofs.Settles.{settles_filled}
use Rattle.fill_store.proofs.laws.a_fill_keeps_a_settling.Goals as goal

pub returns : goal.returns
returns c = settles_filled
