use Rattle.mediator.proofs.Between.{remembered_couples}
use Rattle.mediator.proofs.laws.the_guests_memory_is_the_plain_drives.Goals as goal

pub returns : goal.returns
returns c = remembered_couples
