use Rattle.mon_pool.proofs.Held.{is_added}
use Rattle.mon_pool.proofs.laws.a_lease_is_added.Goals as goal

pub returns : goal.returns
returns c = record { added = is_added }
