use Rattle.std.proofs.Common.{length, ap, arith}
use Rattle.fill_bitmap.proofs.Sectors.{all_added}
use Rattle.fill_bitmap.proofs.block_set.BlockSet.add_sector.Goals as goal

pub returns : goal.returns
returns c = record {
  added = all_added c.args.k c.args.sector.now c.args.self.now c.loop-b.self
      c.loop-b.b c.loop-b.invariant.0
      (omega (arith, ap length c.self.view_is)) c.loop-b.invariant.1 c.loop-b.invariant.2;
}
