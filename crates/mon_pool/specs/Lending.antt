-- How a lease's bytes are lent to be written.
use Rattle.std.specs.Prelude.{ℕ, List}
use Rattle.std.specs.Borrow.{Lends, MutBor, Fml, Array, u8}
use Rattle.mon_pool.specs.contracts.pool.Pool.{the_row}
use Rattle.mon_pool.specs.Region.{Held, Region, with_bytes}

-- what is lent ends with the lease's bytes as they were last behind r
abbrev pub LendsBytes : MutBor Region → Held → MutBor (List ℕ) → Fml
LendsBytes pool lease r = Lends the_row (Array u8 0) pool r (with_bytes lease pool.now)
