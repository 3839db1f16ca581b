use Rattle.world.proofs.Cuts.{found_outcome}
use Rattle.world.proofs.laws.durable_sectors_are_the_plain_drives.Goals as goal

pub returns : goal.returns
returns c = λ deployed k w q lines stands. found_outcome deployed k w.mediator w.scene q lines stands
