use Rattle.mon_pool.proofs.Leases.{are_of_written}
use Rattle.mon_pool.proofs.Parts.{own_bytes, others_bytes}
use Rattle.mon_pool.proofs.laws.bytes_are_the_holders.Goals as goal

pub returns-clause-own : goal.returns-clause-own
returns-clause-own c pool lease bytes whole of long = own_bytes pool lease bytes whole of long

pub returns-clause-others : goal.returns-clause-others
returns-clause-others c pool lease other bytes whole of long apart =
    others_bytes pool lease bytes whole of long other apart

pub returns-clause-leases : goal.returns-clause-leases
returns-clause-leases c leases pool lease bytes are = are_of_written leases pool lease bytes are
