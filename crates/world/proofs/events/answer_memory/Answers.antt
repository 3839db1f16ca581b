use Rattle.std.proofs.Common.{arith}
use Rattle.world.proofs.EventLaws.{bytes_left}
use Rattle.world.proofs.events.answer_memory.Goals as goal

pub loop-i-preserved : goal.loop-i-preserved
loop-i-preserved c = (
  bytes_left c.args.address c.args.n c.loop-i.i c.byte.result c.args.machine.now.memory _ _ _ c.loop-i-test.true
      c.loop-i.invariant.0
      (rw (c.from.ensures, c.from-in-loop-i.ensures) at c.byte.ensures) c.push-in-loop-i.ensures.items,
  omega arith,
  c.loop-i.invariant.2,
)
