use Rattle.std.proofs.Common.{◌≡◌, ◌+◌, length}
use Rattle.plain_run.specs.Guest.{memory_written}
use Rattle.world.specs.Machine.{physical, with_memory}
use Rattle.world.proofs.events.write_memory.Given as goal

abbrev pub invariant-loop-left : goal.invariant-loop-left
invariant-loop-left l =
    (memory_written l.place l.left l.machine.memory ≡ memory_written l.address l.bytes l.fn.machine.memory)
    × (l.place + length l.left ≡ l.address + length l.bytes)
    × (physical l.machine ≡ with_memory l.machine.memory (physical l.fn.machine))

abbrev pub decreases-loop-left : goal.decreases-loop-left
decreases-loop-left l = length l.left
