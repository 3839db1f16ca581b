use Rattle.overlay.proofs.Survivals.{frozen_durable}
use Rattle.overlay.proofs.settling.a_first_flush_makes_frozen_blocks_durable.Goals as goal

pub returns : goal.returns
returns c = frozen_durable
