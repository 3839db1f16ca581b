use Rattle.fill_bitmap.proofs.Disks.{stored_set}
use Rattle.fill_bitmap.proofs.laws.written_sectors_store_their_set.Goals as goal

pub returns : goal.returns
returns c = stored_set
