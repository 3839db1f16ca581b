use Rattle.overlay.proofs.Values.{values_filled}
use Rattle.overlay.proofs.changes.a_block_is_filled_from_the_image.Goals as goal

pub returns : goal.returns
returns c = values_filled
