use Rattle.std.proofs.Common.{◌∙◌, ap, length}
use Rattle.bm_dma.specs.Memory.{byte_at}
use Rattle.bm_dma.proofs.Scattered.{length-scattered, elsewhere}
use Rattle.bm_dma.proofs.moves.move_in.Goals as goal

pub returns-in-Whole-clause-unnamed : goal.returns-in-Whole-clause-unnamed
returns-in-Whole-clause-unnamed c = λ place apart.
    ap (λ m. byte_at m place) c.scatter.ensures.moved ∙ elsewhere c.deref.result.now c.args.sector.now
    c.args.memory.now place
    (rw (c.deref.ensures.0, c.next_places-moved.ensures.places) apart)

pub returns-in-Whole-clause-size : goal.returns-in-Whole-clause-size
returns-in-Whole-clause-size c = ap length c.scatter.ensures.moved ∙ length-scattered c.deref.result.now
    c.args.sector.now c.args.memory.now
