use Rattle.bm_dma.proofs.Named.{short_below}
use Rattle.bm_dma.proofs.laws.short_moves_are_below_a_sector.Goals as goal

pub returns : goal.returns
returns c = record { below = short_below }
