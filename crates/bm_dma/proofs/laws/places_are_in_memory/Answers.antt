use Rattle.bm_dma.proofs.Named.{inside_run}
use Rattle.bm_dma.proofs.laws.places_are_in_memory.Goals as goal

pub returns : goal.returns
returns c = record { inside = inside_run }
