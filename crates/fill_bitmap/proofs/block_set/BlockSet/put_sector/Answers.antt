use Rattle.std.proofs.Common.{◌*◌, arith}
use Rattle.fill_bitmap.proofs.Bytes.{bytes_are}
use Rattle.fill_bitmap.proofs.block_set.BlockSet.put_sector.Goals as goal

pub returns : goal.returns
returns c = record {
  bytes = bytes_are 512 (c.args.k * 4096) c.args.self.now c.loop-i.into c.loop-i.invariant.0
      (λ j below. c.loop-i.invariant.1 j (omega arith));
}
