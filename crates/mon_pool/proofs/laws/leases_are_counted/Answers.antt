use Rattle.mon_pool.proofs.Held.{held_are_out, one_fewer_out, one_more_out, some_free}
use Rattle.mon_pool.proofs.laws.leases_are_counted.Goals as goal

pub returns-clause-out : goal.returns-clause-out
returns-clause-out c pool buffer first = one_more_out pool buffer first

pub returns-clause-back : goal.returns-clause-back
returns-clause-back c pool lease of = one_fewer_out pool lease of

pub returns-clause-held : goal.returns-clause-held
returns-clause-held c leases pool are = held_are_out leases pool are

pub returns-clause-free : goal.returns-clause-free
returns-clause-free c pool few = some_free pool few
