use Rattle.std.proofs.Common.{◌∙◌}
use Rattle.drive_model.specs.Drive.{physical_of}
use Rattle.drive_model.proofs.Worked.{next_more, next_over}
use Rattle.drive_model.proofs.drive.Drive.want_next.Goals as goal

pub returns-then-done-order-clause-after : goal.returns-then-done-order-clause-after
returns-then-done-order-clause-after g c = λ memory.
    c.offer.ensures.after memory ∙ next_more c.args.order c.args.done (physical_of c.args.self.now memory)
    c.if-done-order.true

pub returns-else-done-order-clause-after : goal.returns-else-done-order-clause-after
returns-else-done-order-clause-after g c = λ memory.
    c.end.ensures.after memory ∙ next_over c.args.order c.args.done (physical_of c.args.self.now memory)
    c.if-done-order.false c.requires.takes
