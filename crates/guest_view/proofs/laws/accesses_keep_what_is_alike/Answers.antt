use Rattle.guest_view.proofs.Masks.{same_pending, same_masks}
use Rattle.guest_view.proofs.laws.accesses_keep_what_is_alike.Goals as goal

pub returns-clause-pending : goal.returns-clause-pending
returns-clause-pending c = same_pending

pub returns-clause-nien : goal.returns-clause-nien
returns-clause-nien c = same_masks
