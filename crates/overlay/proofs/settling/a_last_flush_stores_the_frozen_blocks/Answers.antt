use Rattle.overlay.proofs.Survivals.{frozen_stored}
use Rattle.overlay.proofs.settling.a_last_flush_stores_the_frozen_blocks.Goals as goal

pub returns : goal.returns
returns c = frozen_stored
