use Rattle.std.proofs.Common.{◌≡◌, ◌+◌, drop, slice_get}
use Rattle.aoe_client.specs.Fetching.{due_from}
use Rattle.aoe_client.proofs.tags.nth_due.Given as goal

-- the k-th due tag of all is the one that is left to be counted of the rest
abbrev pub invariant-loop-state : goal.invariant-loop-state
invariant-loop-state l = record {
  tag : l.tag ≡ l.first + l.state-index;
  rest : slice_get (due_from l.tag (drop l.state-index l.tags)) l.left ≡ slice_get (due_from l.first l.tags) l.k;
}
