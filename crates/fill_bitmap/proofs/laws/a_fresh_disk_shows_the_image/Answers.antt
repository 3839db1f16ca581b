use Rattle.fill_bitmap.proofs.Disks.{fresh_view}
use Rattle.fill_bitmap.proofs.laws.a_fresh_disk_shows_the_image.Goals as goal

pub returns : goal.returns
returns c = fresh_view
