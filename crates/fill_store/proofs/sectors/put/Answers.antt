use Rattle.std.proofs.Common.{arith, length-take}
use Rattle.fill_store.proofs.sectors.put.Goals as goal

pub copy_from_slice-requires : goal.copy_from_slice-requires
copy_from_slice-requires c = omega (arith, length-take 512 c.args.buffer.now, c.told-bytes)
