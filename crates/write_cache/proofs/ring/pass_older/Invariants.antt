use Rattle.std.proofs.Common.{◌≡◌, ◌++◌, length, take, drop}
use Rattle.write_cache.specs.Cache.{entries_but}
use Rattle.write_cache.proofs.ring.pass_older.Given as goal

-- those that the walk came to are gone from the front, and those of other sectors stand behind
abbrev pub invariant-loop-i : goal.invariant-loop-i
invariant-loop-i l = record {
  items : l.ring.items ≡ drop l._i l.initial.ring.items ++ entries_but l.sector (take l._i l.initial.ring.items);
  room : l.ring.capacity ≡ l.initial.ring.capacity;
  number : l.passed ≡ length (entries_but l.sector (take l._i l.initial.ring.items));
}
