use Rattle.std.proofs.Common.{Some}
use Rattle.world.proofs.NetworkLaws.{answered}
use Rattle.world.proofs.network.answer.Goals as goal

pub returns-in-Some-clause-network : goal.returns-in-Some-clause-network
returns-in-Some-clause-network g c =
    answered c.args.sectors (g.H.Host.outside c.args.host.now) (g.H.Host.outside c.serve.new.host) c.args.frame.now
    (Some c.in-Some.reply) c.args.net.now c.send.new.self
    (rw c.in-Some.is at c.in_ok-reply.ensures.answer) c.serve.ensures.looked c.send.ensures.after
