use Rattle.std.proofs.Common.{◌+◌, arith}
use Rattle.std.proofs.lemmas.List.Sums.{sum_by-le}
use Rattle.bg_copy.specs.declared.moderation.TheConstants.{MOST_LIMIT}
use Rattle.bg_copy.proofs.Counting.{command_counted, command_passed_over}
use Rattle.bg_copy.proofs.window.Window.command.Goals as goal

pub overflow_add-self-then-self : goal.overflow_add-self-then-self
overflow_add-self-then-self c =
    omega (arith, sum_by-le (λ x. x) (MOST_LIMIT + 1) c.self.inside.earlier.items c.self.invariant.before)

pub returns-then-self : goal.returns-then-self
returns-then-self c m happened kept =
    let w = c.self.inside in
    command_counted m w.earlier.capacity w.limit w.current w.earlier.items happened (rw c.self.view_is kept)

pub returns-else-self : goal.returns-else-self
returns-else-self c m happened kept =
    let w = c.self.inside in
    rw (← c.self.view_is) (command_passed_over m w.earlier.capacity w.limit w.current w.earlier.items happened
    (omega arith) (rw c.self.view_is kept))
