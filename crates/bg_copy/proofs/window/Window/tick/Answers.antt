use Rattle.std.proofs.Common.{◌∷◌}
use Rattle.bg_copy.proofs.Counting.{oldest_within, tick_added, tick_counted}
use Rattle.bg_copy.specs.Copier.{Counts}
use Rattle.bg_copy.specs.contracts.window.Window.{the_view}
use Rattle.bg_copy.proofs.window.Window.tick.Goals as goal

pub overflow_sub-self : goal.overflow_sub-self
overflow_sub-self c =
    let w = c.self.inside in
    let e = c.push_front.ensures in
    oldest_within w.limit w.current w.total w.earlier _ _ _ c.self.invariant e.items e.value c.unwrap_or-oldest.ensures

pub invariant_of-self : goal.invariant_of-self
invariant_of-self c =
    let w = c.self.inside in
    let e = c.push_front.ensures in
    tick_added w.limit w.current w.total w.earlier _ _ _ c.self.invariant e.items e.value c.unwrap_or-oldest.ensures

pub returns : goal.returns
returns c m happened kept =
    let w = c.self.inside in
    let held : Counts m (the_view w) happened = rw c.self.view_is kept in
    rw c.push_front.ensures.items
    (tick_counted m w.earlier.capacity w.limit (w.current ∷ w.earlier.items) happened held)
