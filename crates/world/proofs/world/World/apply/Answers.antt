use Rattle.std.proofs.Common.{refl, ap}
use Rattle.block_writes.proofs.Told.{IfTold-all, IfTold-weaker}
use Rattle.bm_host.specs.declared.Role.TheVariants.{Image}
use Rattle.world.specs.Keeping.{world_of}
use Rattle.world.specs.Machine.{physical}
use Rattle.world.specs.Deployed.{watched_in}
use Rattle.world.proofs.NetworkLaws.{both}
use Rattle.world.proofs.Deploying.{kept_in, no_stands, on_ok}
use Rattle.world.proofs.world.World.apply.Goals as goal

pub returns-in-None-clause-event : goal.returns-in-None-clause-event
returns-in-None-clause-event g c =
    on_ok c.alone.result
    (λ one. rw (← c.self.view_is)
    (both (g.H.Host.outside c.args.host.now) (g.H.Host.outside c.alone.new.host) _ _ _ (ap watched_in c.in-None.is)
    (ap watched_in c.in-None.is) one.drive one.conveys refl))
    c.alone.ensures.event

pub returns-in-None-clause-kept : goal.returns-in-None-clause-kept
returns-in-None-clause-kept g c =
    rw (← c.self.view_is) (on_ok c.alone.result
    (λ one. IfTold-all ((g.H.Host.outside c.args.host.now).told Image) _ (λ image deployed of k q lines stands.
    absurd (no_stands deployed k c.self.inside.mediator _ q lines c.in-None.is stands)))
    c.alone.ensures.event)

pub returns-in-Some-clause-kept : goal.returns-in-Some-clause-kept
returns-in-Some-clause-kept g c =
    rw (← c.self.view_is) (on_ok c.apply.result
    (λ told. IfTold-weaker ((g.H.Host.outside c.args.host.now).told Image) _ _ (λ image kept.
    kept_in image c.self.inside.image (physical c.self.inside.machine) c.self.inside.net c.self.inside.mediator
    c.in-Some.mediator _
    (world_of c.self.inside.image c.apply.new.mediator (physical c.apply.new.machine) c.apply.new.net)
    c.in-Some.is kept) told)
    c.apply.ensures.kept)
