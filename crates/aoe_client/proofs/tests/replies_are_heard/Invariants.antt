use Rattle.std.proofs.Common.{◌≡◌}
use Rattle.mon_pool.specs.Region.{AreOf, Region}
use Rattle.aoe_client.specs.Asking.{Asking, leases_of}
use Rattle.aoe_client.proofs.tests.replies_are_heard.Given as goal

-- the client's lease is of the pool, which has room for its block
abbrev IsServed : Asking → Region → Type 0
IsServed client pool = AreOf (leases_of client) pool × (client.block ≡ 8) × (pool.room ≡ 4096)

abbrev pub invariant-loop-frame : goal.invariant-loop-frame
invariant-loop-frame g l = IsServed l.client l.pool

abbrev pub invariant-loop-tick : goal.invariant-loop-tick
invariant-loop-tick g l = IsServed l.client l.pool
