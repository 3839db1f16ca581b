use Rattle.bm_dma.proofs.Beside.{next_error, next_interrupt}
use Rattle.bm_dma.proofs.laws.a_walk_leaves_the_marks.Goals as goal

pub returns-clause-error : goal.returns-clause-error
returns-clause-error c = next_error

pub returns-clause-interrupt : goal.returns-clause-interrupt
returns-clause-interrupt c = next_interrupt
