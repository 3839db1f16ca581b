use Rattle.std.proofs.Common.{length, ap, arith}
use Rattle.write_cache.proofs.Taking.{length-taken_at-le}
use Rattle.write_cache.proofs.cache.Cache.take.Goals as goal

pub invariant_of-self : goal.invariant_of-self
invariant_of-self c =
    let items = c.self.inside.ring.items in (
      omega (arith, ap (λ b. b.capacity) c.take_out.ensures.after),
      omega (
        arith,
        ap (λ b. b.capacity) c.take_out.ensures.after,
        ap (λ b. length b.items) c.take_out.ensures.after,
        length-taken_at-le c.args.k items,
      ),
    )
