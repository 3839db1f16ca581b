use Rattle.fill_bitmap.specs.Area.{bitmap_sectors_of}
use Rattle.fill_store.specs.Settle.{IsReached}
use Rattle.fill_store.proofs.Settles.{settles_ended}
use Rattle.fill_store.proofs.settle.Settle.ended.Goals as goal

pub returns-clause-settles : goal.returns-clause-settles
returns-clause-settles c = λ id durable old new settles made.
    let reached : IsReached (bitmap_sectors_of c.args.self.now.area) c.args.self.now.step =
    rw (← c.self.view_is) c.self.invariant.reached in
    settles_ended c.args.ok id durable c.args.self.now _ c.args.bitmap.now _ old new reached
    (rw (← c.self.view_is) c.step_behind-self-inside.ensures.step)
    (rw (← c.self.view_is) c.step_behind-self-inside.ensures.sets)
    settles made
