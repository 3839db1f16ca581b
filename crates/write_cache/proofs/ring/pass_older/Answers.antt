use Rattle.std.proofs.Common.{◌<◌, not, length, take, ap, ◌∙◌, arith, length-take}
use Rattle.write_cache.specs.Cache.{is_of}
use Rattle.write_cache.proofs.Rings.{length-filter-le, passes_more, number_more}
use Rattle.write_cache.proofs.ring.pass_older.Goals as goal

pub overflow_add-passed : goal.overflow_add-passed
overflow_add-passed c =
    let before = take c.loop-i._i c.args.ring.now.items in
    let one = take 1 c.loop-i.ring.items in
    omega (
      arith,
      length-filter-le (λ entry. not (is_of c.args.sector entry)) before,
      length-filter-le (λ entry. not (is_of c.args.sector entry)) one,
      length-take c.loop-i._i c.args.ring.now.items,
      length-take 1 c.loop-i.ring.items,
    )

pub loop-i-preserved : goal.loop-i-preserved
loop-i-preserved c =
    let within : c.loop-i._i < length c.args.ring.now.items = omega arith in
    let front = c.pass_front-passed.ensures in
    record {
      items = ap (λ b. b.items) front.passed ∙ passes_more _ c.args.ring.now.items c.loop-i.ring.items
          _ within c.loop-i.invariant.items;
      room = ap (λ b. b.capacity) front.passed ∙ c.loop-i.invariant.room;
      number = number_more _ c.args.ring.now.items c.loop-i.ring.items _ _ _ within c.loop-i.invariant.items
          c.loop-i.invariant.number front.number;
    }
