use Rattle.fill_bitmap.proofs.Disks.{added_all}
use Rattle.fill_bitmap.proofs.laws.added_sectors_give_the_stored_blocks.Goals as goal

pub returns : goal.returns
returns c = added_all
