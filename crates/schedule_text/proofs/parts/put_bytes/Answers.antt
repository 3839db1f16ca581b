use Rattle.std.proofs.Common.{arith}
use Rattle.std.proofs.lemmas.Grind.{common_steps}
use Rattle.schedule_text.proofs.Hex.{all_three, front_more, never_more}
use Rattle.schedule_text.proofs.parts.put_bytes.Goals as goal

pub loop-i-preserved : goal.loop-i-preserved
loop-i-preserved c =
    let here = c.loop-i in
    record {
      so_far = λ good. let three = all_three here.good c.digit_value-high.result c.digit_value-low.result good in
          front_more here.i _ _ c.args.text.now here.bytes here.invariant.len (omega arith)
          c.digit_value-high.ensures c.digit_value-low.ensures three.1 three.2 (here.invariant.so_far three.0);
      never = never_more here.good here.i _ _ c.args.text.now here.invariant.never (omega arith)
          c.digit_value-high.ensures c.digit_value-low.ensures;
      len = grind (arith, common_steps);
    }
