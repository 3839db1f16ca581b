use Rattle.std.proofs.Common.{◌≡◌, ◌++◌, take, drop, map}
use Rattle.aoe_client.specs.Fetching.{due_again}
use Rattle.aoe_client.proofs.tags.make_due.Given as goal

-- those that the walk came to are due again
abbrev pub invariant-loop-state : goal.invariant-loop-state
invariant-loop-state l =
    l.state-items ≡ map due_again (take l.state-index l.initial.state-items) ++ drop l.state-index l.initial.state-items
