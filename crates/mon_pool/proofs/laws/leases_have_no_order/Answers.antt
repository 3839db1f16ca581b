use Rattle.mon_pool.proofs.Held.{from_front, to_front}
use Rattle.mon_pool.proofs.laws.leases_have_no_order.Goals as goal

pub returns-clause-first : goal.returns-clause-first
returns-clause-first c before behind lease pool are = to_front before behind lease pool are

pub returns-clause-anywhere : goal.returns-clause-anywhere
returns-clause-anywhere c before behind lease pool are = from_front before behind lease pool are
