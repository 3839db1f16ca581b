use Rattle.std.proofs.Common.{◌≡◌, ◌-◌, ◌+◌, suc, length, ap, ◌∙◌, arith}
use Rattle.write_cache.proofs.Rings.{turned_more}
use Rattle.write_cache.proofs.ring.bring_back.Goals as goal

pub loop-i-preserved : goal.loop-i-preserved
loop-i-preserved c =
    let all = length c.args.ring.now.items in
    let step : all - c.loop-i._i ≡ suc (all - (c.loop-i._i + 1)) = omega arith in
    record {
      items = ap (λ b. b.items) c.bring_last.ensures ∙ turned_more c.args.ring.now.items c.loop-i.ring.items _ _ step
          (omega arith) c.loop-i.invariant.items;
      room = ap (λ b. b.capacity) c.bring_last.ensures ∙ c.loop-i.invariant.room;
    }
