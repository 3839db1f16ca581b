use Rattle.std.proofs.Common.{◌≡◌, ◌+◌, ◌-◌, ◌++◌, ◌∷◌, [], length}
use Rattle.schedule_text.specs.declared.Item.TheVariants.{Answer}
use Rattle.plain_run.specs.Guest.{memory_read}
use Rattle.world.proofs.events.answer_memory.Given as goal

abbrev pub invariant-loop-i : goal.invariant-loop-i
invariant-loop-i l =
    (l.out.bytes.items ++ memory_read (l.address + l.i) (l.n - l.i) l.machine.memory ≡ memory_read
    l.address l.n l.machine.memory)
    × (length l.out.bytes.items ≡ l.i)
    × (l.out.items.items ≡ Answer ∷ [])
