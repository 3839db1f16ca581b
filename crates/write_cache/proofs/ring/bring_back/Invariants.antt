use Rattle.std.proofs.Common.{◌≡◌, ◌-◌, ◌++◌, length, take, drop}
use Rattle.write_cache.proofs.ring.bring_back.Given as goal

-- as many as the walk came to stand at the front, and the others behind
abbrev pub invariant-loop-i : goal.invariant-loop-i
invariant-loop-i l = record {
  items : l.ring.items ≡ drop (length l.initial.ring.items - l._i) l.initial.ring.items
      ++ take (length l.initial.ring.items - l._i) l.initial.ring.items;
  room : l.ring.capacity ≡ l.initial.ring.capacity;
}
