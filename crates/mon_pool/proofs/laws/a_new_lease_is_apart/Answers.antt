use Rattle.mon_pool.proofs.Leases.{new_apart}
use Rattle.mon_pool.proofs.laws.a_new_lease_is_apart.Goals as goal

pub returns-clause-apart : goal.returns-clause-apart
returns-clause-apart c pool buffer other first of same = new_apart pool.free buffer other.buffer first of.out same
