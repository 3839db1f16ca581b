use Rattle.bm_host.specs.declared.Role.TheVariants.{Disk}
use Rattle.world.specs.Machine.{list_of}
use Rattle.world.proofs.DiskLaws.{sector_read_if_told}
use Rattle.world.proofs.disk.read_sector.Goals as goal

pub returns-clause-disk : goal.returns-clause-disk
returns-clause-disk g c =
    let set = rw c.unwrap.ensures at c.set.ensures.written in
    sector_read_if_told ((g.H.Host.outside c.args.host.now).told Disk) (list_of c.args.store.now)
    (list_of c.set.new.self) c.read_at.new.into c.args.sector
    c.requires.within set c.in_ok-read_at.ensures.read
