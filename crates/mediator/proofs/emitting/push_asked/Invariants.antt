use Rattle.std.proofs.Common.{◌≡◌, ◌+◌, ◌≤◌, ◌++◌, length, take}
use Rattle.aoe_client.specs.Asking.{due_tags}
use Rattle.streaming.specs.Monitor.{asked_items}
use Rattle.mediator.proofs.emitting.push_asked.Given as goal

-- the items of the first tags are there
abbrev pub invariant-loop-k : goal.invariant-loop-k
invariant-loop-k l = record {
  items : l.out.items.items ≡ l.fn.out.items.items ++ asked_items (take l.k (due_tags l.client));
  few : length l.out.items.items ≤ 16 + l.k;
  bytes : l.out.bytes ≡ l.fn.out.bytes;
}
