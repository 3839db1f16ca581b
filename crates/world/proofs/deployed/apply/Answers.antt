use Rattle.std.proofs.Common.{sym, ap, ◌∙◌, subst}
use Rattle.aoe_client.specs.Asking.{due_tags}
use Rattle.mediator.specs.declared.mediator.Mediator.{Mediator}
use Rattle.bm_host.specs.declared.Role.TheVariants.{Image}
use Rattle.mediator.specs.Mediator.{IsStill, client_of, parts_of}
use Rattle.streaming.proofs.AllSent.{none_left}
use Rattle.world.specs.Deployed.{watched_of}
use Rattle.world.specs.Machine.{device, physical}
use Rattle.world.proofs.Deploying.{deployed, plain_kept}
use Rattle.world.proofs.Marked.{marked_right}
use Rattle.world.proofs.deployed.apply.Goals as goal

pub returns-clause-event : goal.returns-clause-event
returns-clause-event g c =
    deployed c.args.sectors (g.H.Host.outside c.args.host.now) (g.H.Host.outside c.convey.new.host)
    c.args.net.now _ _ _ _ _ (watched_of c.act.new.mediator) _ c.args.event.now _ _ c.requires.built c.act.ensures.bytes
    (c.act.ensures.acted c.args.net.now c.in-Ok.ensures.frame) c.in-Ok.ensures.network
    (ap watched_of c.send_all.ensures.after) c.send_all.ensures.wire

pub returns-clause-kept : goal.returns-clause-kept
returns-clause-kept g c =
    let event_is = deployed c.args.sectors (g.H.Host.outside c.args.host.now) (g.H.Host.outside c.convey.new.host)
    c.args.net.now _ _ _ _ _ (watched_of c.act.new.mediator) _ c.args.event.now _ _ c.requires.built c.act.ensures.bytes
    (c.act.ensures.acted c.args.net.now c.in-Ok.ensures.frame) c.in-Ok.ensures.network
    (ap watched_of c.send_all.ensures.after) c.send_all.ensures.wire in
    plain_kept ((g.H.Host.outside c.args.host.now).told Image) c.args.sectors c.args.mediator.now c.act.new.mediator
    c.send_all.new.mediator (physical c.args.machine.now) (physical c.act.new.machine) c.args.net.now c.send_all.new.net
    c.args.event.now c.act.new.out.items.items c.act.new.out.bytes.items event_is.count event_is.monitored.told
    c.requires.in_range c.requires.built event_is.monitored.monitor event_is.network
    (marked_right c.args.net.now c.args.mediator.now (physical c.args.machine.now) (physical c.act.new.machine)
    (watched_of c.args.mediator.now) (watched_of c.act.new.mediator) c.act.new.out.items.items c.args.event.now
    (c.act.ensures.acted c.args.net.now c.in-Ok.ensures.frame) c.act.ensures.written)
    (c.act.ensures.kept c.args.net.now c.in-Ok.ensures.frame)
    (ap (λ (m : Mediator). (parts_of m).area) c.send_all.ensures.after ∙ c.act.ensures.area)
    (ap (λ (m : Mediator). (parts_of m).id) c.send_all.ensures.after ∙ c.act.ensures.id)
    (c.send_all.ensures.fits _ c.act.ensures.fits)
    (λ k q lines stand. c.send_all.ensures.kept k _ _ q lines stand)

pub returns-clause-ready : goal.returns-clause-ready
returns-clause-ready g c = record {
  fits = c.send_all.ensures.fits _ c.act.ensures.fits;
  still = subst (λ (m : Mediator). IsStill m (device c.act.new.machine)) (sym c.send_all.ensures.after)
      c.act.ensures.still;
  sent = ap (λ (m : Mediator). due_tags (client_of m)) c.send_all.ensures.after
      ∙ none_left (client_of c.act.new.mediator);
}

pub returns-clause-reserved : goal.returns-clause-reserved
returns-clause-reserved g c =
    marked_right c.args.net.now c.args.mediator.now (physical c.args.machine.now) (physical c.act.new.machine)
    (watched_of c.args.mediator.now) (watched_of c.act.new.mediator) c.act.new.out.items.items c.args.event.now
    (c.act.ensures.acted c.args.net.now c.in-Ok.ensures.frame) c.act.ensures.written
