use Rattle.std.proofs.Common.{◌≡◌}
use Rattle.aoe_client.specs.Asking.{leases_of}
use Rattle.aoe_client.proofs.tests.assert_sends.Given as goal

-- the client holds the same leases, for blocks of the same size
abbrev pub invariant-loop-tag : goal.invariant-loop-tag
invariant-loop-tag g l = (leases_of l.client ≡ leases_of l.fn.client) × (l.client.block ≡ l.fn.client.block)
