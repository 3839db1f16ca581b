use Rattle.std.proofs.Common.{inl, inr, arith, sym}
use Rattle.write_gate.proofs.Passed.{next_passed}
use Rattle.write_gate.proofs.gating.lowest_empty.Goals as goal
use Rattle.write_gate.proofs.gating.lowest_empty.Goals.{else-low-found-via-then-low-found+else-found-high, else-low-found-via-else-low-found}

pub returns-then-found-high-clause-lowest : goal.returns-then-found-high-clause-lowest
returns-then-found-high-clause-lowest c = λ k from below.
    next_passed c.args.low c.args.bitmap.now.filled c.in_ok-found.found (sym c.in_ok-found.ensures.first) k from
    (omega arith) (inl below)

pub returns-else-low-found-clause-none : goal.returns-else-low-found-clause-none
returns-else-low-found-clause-none c = λ none k from to.
    let passed = next_passed c.args.low c.args.bitmap.now.filled c.in_ok-found.found (sym c.in_ok-found.ensures.first)
    k from (omega arith) in
    elim c.else-low-found.branch [
      | else-low-found-via-then-low-found+else-found-high w ↦ passed (inl (omega arith))
      | else-low-found-via-else-low-found w ↦ passed (inr (omega arith))
    ]
