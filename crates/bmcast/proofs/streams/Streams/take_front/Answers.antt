use Rattle.std.proofs.Common.{ℕ, ◌-◌, refl, take, drop, arith}
use Rattle.std.proofs.lemmas.Grind.{common_steps}
use Rattle.bmcast.proofs.Blocks.{block_front}
use Rattle.bmcast.proofs.streams.Streams.take_front.Goals as goal

pub returns : goal.returns
returns c =
    let s = c.args.self.now in
    let n : ℕ = c.before_line_feed-count.result in
    record {
      front = take n (take (s.end - s.at) (drop s.at s.block));
      one = c.before_line_feed-count.ensures.one;
      line_is = grind (arith, common_steps);
      left_is = block_front n s.at s.end s.block s.taken;
      pending = refl;
    }
