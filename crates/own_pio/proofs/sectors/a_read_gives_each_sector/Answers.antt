use Rattle.own_pio.proofs.SectorBySector.{read_each}
use Rattle.own_pio.proofs.sectors.a_read_gives_each_sector.Goals as goal

pub returns : goal.returns
returns c = read_each
