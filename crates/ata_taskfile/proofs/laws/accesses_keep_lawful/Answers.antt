use Rattle.ata_taskfile.proofs.Lawfulness.{accessed-lawful}
use Rattle.ata_taskfile.proofs.laws.accesses_keep_lawful.Goals as goal

pub returns : goal.returns
returns c = accessed-lawful
