use Rattle.std.proofs.Common.{arith}
use Rattle.monitor_runs.proofs.machine.Machine.is_free.Goals as goal

pub returns-then-not-file : goal.returns-then-not-file
returns-then-not-file c = λ e.
    let file = c.file-file.ensures in
    let bit = c.has_bit.ensures in
    let idle = c.in-Idle.is in
    let none = c.if-not-file.true in
    grind (arith, file, bit, idle, none, e)
