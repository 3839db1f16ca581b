use Rattle.std.proofs.Common.{None, Some, refl, sym}
use Rattle.mon_pool.proofs.Leases.{none_where}
use Rattle.mon_pool.proofs.pool.Pool.take.Goals as goal

pub returns-in_err-buffer-clause-none : goal.returns-in_err-buffer-clause-none
returns-in_err-buffer-clause-none c =
    let none = none_where c.args.self.now.free None (sym c.in_err-buffer.ensures) in
    (λ is. none.0 refl, λ zero. rw c.from_residual.ensures refl)

pub returns-clause-none : goal.returns-clause-none
returns-clause-none c = none_where c.args.self.now.free (Some c.in_ok-buffer.buffer) (sym c.in_ok-buffer.ensures)
