use Rattle.plain_drive.proofs.Sectors.{sector_of_bytes}
use Rattle.plain_drive.proofs.bytes.a_sector_is_its_bytes.Goals as goal

pub returns : goal.returns
returns c = sector_of_bytes
