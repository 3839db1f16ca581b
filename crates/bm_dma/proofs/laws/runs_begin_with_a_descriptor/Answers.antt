use Rattle.bm_dma.proofs.Named.{run_first, run_past}
use Rattle.bm_dma.proofs.laws.runs_begin_with_a_descriptor.Goals as goal

pub returns : goal.returns
returns c = record { first = run_first; past = run_past }
