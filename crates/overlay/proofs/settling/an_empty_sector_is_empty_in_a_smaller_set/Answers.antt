use Rattle.overlay.proofs.Sets.{empty_in}
use Rattle.overlay.proofs.settling.an_empty_sector_is_empty_in_a_smaller_set.Goals as goal

pub returns : goal.returns
returns c = empty_in
