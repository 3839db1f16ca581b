use Rattle.own_pio.proofs.SectorBySector.{written_each, written-before, written-behind}
use Rattle.own_pio.proofs.sectors.a_write_reaches_each_sector.Goals as goal

pub returns-clause-written : goal.returns-clause-written
returns-clause-written c = written_each

pub returns-clause-before : goal.returns-clause-before
returns-clause-before c = written-before

pub returns-clause-behind : goal.returns-clause-behind
returns-clause-behind c = written-behind
