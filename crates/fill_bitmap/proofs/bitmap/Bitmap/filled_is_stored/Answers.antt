use Rattle.fill_bitmap.proofs.Counts.{same_by_count}
use Rattle.fill_bitmap.proofs.bitmap.Bitmap.filled_is_stored.Goals as goal

pub returns-clause-answer : goal.returns-clause-answer
returns-clause-answer c =
    let stored = c.self.inside.stored in
    let filled = c.self.inside.filled in
    rw (← c.self.view_is, c.held.ensures.count, c.held-2.ensures.count)
    (same_by_count stored filled c.self.invariant.stored_blocks
    (λ b held. c.self.invariant.frozen_filled b (c.self.invariant.stored_frozen b held)))
