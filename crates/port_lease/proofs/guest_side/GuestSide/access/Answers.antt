use Rattle.port_lease.proofs.Guest.{read_seen, write_seen}
use Rattle.port_lease.proofs.guest_side.GuestSide.access.Goals as goal

pub returns-in-Read8-clause-after : goal.returns-in-Read8-clause-after
returns-in-Read8-clause-after g c = λ given. rw c.in-Read8.is
    (read_seen c.in-Read8.reg c.args.self.now.view (g.P.Ports.device c.args.ports.now)
    (g.P.Ports.device c.read8.new.ports) c.read8.ensures.drive)

pub returns-in-Write8-clause-after : goal.returns-in-Write8-clause-after
returns-in-Write8-clause-after g c = λ given. rw c.in-Write8.is
    (write_seen c.in-Write8.reg c.in-Write8.v c.args.self.now.view c.write8.new.self.view
    (g.P.Ports.device c.args.ports.now) (g.P.Ports.device c.write8.new.ports) given c.write8.ensures.drive
    c.write8.ensures.file c.write8.ensures.bus)
