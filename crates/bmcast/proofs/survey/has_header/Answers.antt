use Rattle.bm_host.specs.declared.Role.TheVariants.{Disk}
use Rattle.bmcast.proofs.Finding.{header_read}
use Rattle.bmcast.proofs.survey.has_header.Goals as goal

pub returns-clause-header : goal.returns-clause-header
returns-clause-header g c = rw c.eq.ensures
    (header_read c.args.area.now c.args.id c.reserved.result ((g.H.Host.outside c.args.host.now).told Disk)
    c.read_at.new.into c.header.new.into c.requires.suitable c.requires.some c.reserved.ensures.first
    c.in_ok-read_at.ensures.read c.header.ensures.bytes)
