use Rattle.std.proofs.Common.{◌≡◌, replicate}
use Rattle.drive_store.proofs.memory_store.MemoryStore.new.Given as goal

abbrev pub invariant-loop : goal.invariant-loop
invariant-loop l = l.zeros.items ≡ replicate l.counter (replicate 512 0)
