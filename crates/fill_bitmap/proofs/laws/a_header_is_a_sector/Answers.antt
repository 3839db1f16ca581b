use Rattle.std.proofs.Common.{refl}
use Rattle.fill_bitmap.specs.Disk.{header_of}
use Rattle.fill_bitmap.proofs.laws.a_header_is_a_sector.Goals as goal

pub returns : goal.returns
unfolding header_of
returns c area id = refl
