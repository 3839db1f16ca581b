use Rattle.fill_store.specs.Opening.{IsReached}
use Rattle.fill_store.proofs.Opens.{opens_ended}
use Rattle.fill_store.proofs.opening.Opening.ended.Goals as goal

pub returns-clause-opens : goal.returns-clause-opens
returns-clause-opens c = λ disk old new opens made.
    let reached : IsReached c.args.self.now.area c.args.self.now.step =
    rw (← c.self.view_is) c.self.invariant.reached in
    opens_ended c.args.ok disk c.args.self.now _ c.args.sector.now c.args.bitmap.now _ old new reached
    (rw (← c.self.view_is) c.step_behind-self-inside.ensures.step)
    (rw (← c.self.view_is) c.step_behind-self-inside.ensures.sets) opens made
