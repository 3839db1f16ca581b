use Rattle.std.proofs.Common.{◌∷◌, [], Some, ◌∙◌, sym, ap, subst}
use Rattle.std.specs.Prelude.{not, ◌&&◌}
use Rattle.plain_drive.specs.Plain.{Plain}
use Rattle.port_lease.specs.Sides.{has_own}
use Rattle.dummy_read.specs.Dummy.{is_cancelled, sector_of}
use Rattle.dummy_read.specs.Flight.{ended}
use Rattle.monitor_state.specs.GoesOn.{GoesOn}
use Rattle.monitor_state.specs.Sourced.{KeepsSources}
use Rattle.monitor_state.specs.declared.state.State.TheVariants.{Monitor, Raising}
use Rattle.monitor_events.specs.Stepping.{item_planned, view_planned}
use Rattle.monitor_events.proofs.Ended.{fits_once_ended}
use Rattle.monitor_events.proofs.Raised.{raised_shown}
use Rattle.monitor_events.proofs.Sources.{raised_keeps}
use Rattle.monitor_events.proofs.stepping.raised.Goals as goal

pub returns-clause-fits : goal.returns-clause-fits
returns-clause-fits g c =
    let own = c.planned-item.ensures.own ∙ c.poll.ensures.own
    ∙ ap (λ ended. not ended && has_own c.args.side) c.if-not-poll.false in
    let view = c.planned-item.ensures.view ∙ ap (view_planned c.args.plan) c.poll.ensures.view in
    fits_once_ended c.args.side c.planned-item.new.side c.args.dummy c.args.plan c.args.parts.now
    (g.P.Ports.device c.args.ports.now) c.requires.fits own view c.planned-item.ensures.fits
    c.planned-item.new.parts (g.P.Ports.device c.poll.new.ports) c.planned-item.ensures.parts
    (c.poll.ensures.ended c.if-not-poll.false)

pub returns-clause-shown : goal.returns-clause-shown
returns-clause-shown g c kind effect old now at come =
    let side = c.args.side in
    let new = c.planned-item.new.side in
    let dummy = c.args.dummy in
    let due = c.args.plan in
    let p = c.args.parts.now in
    let e = g.P.Ports.device c.poll.new.ports in
    let flies = come.fits.device.0 in
    let left = ap (λ (t : Plain). t.memory) come.stepped.after
    ∙ c.a_step_moves_nothing.ensures.memory (sector_of dummy) (is_cancelled dummy) kind old flies in
    let rises = ap (λ (t : Plain). t.device.bus) come.stepped.after
    ∙ c.a_step_raises_the_interrupt.ensures.bus (sector_of dummy) (is_cancelled dummy) kind old flies in
    let view = c.planned-item.ensures.view ∙ ap (view_planned due) c.poll.ensures.view in
    let drive = c.poll.ensures.ended c.if-not-poll.false ∙ ap (ended (is_cancelled dummy)) (sym at) in
    subst
    (λ item. GoesOn (Raising side dummy due) p old.device old.memory (item ∷ []) (Monitor new)
    c.planned-item.new.parts e now.memory) (sym c.planned-item.ensures.item)
    (subst
    (λ after. GoesOn (Raising side dummy due) p old.device old.memory (item_planned due ∷ []) (Monitor new) after e
    now.memory) (sym c.planned-item.ensures.parts)
    (raised_shown side new dummy due p kind effect old now e come left rises view drive))

pub returns-clause-sources : goal.returns-clause-sources
returns-clause-sources g c kind effect old now at come =
    let side = c.args.side in
    let new = c.planned-item.new.side in
    let dummy = c.args.dummy in
    let due = c.args.plan in
    let p = c.args.parts.now in
    let e = g.P.Ports.device c.poll.new.ports in
    subst
    (λ item. KeepsSources (Raising side dummy due) p old.device (Some item) (Monitor new) c.planned-item.new.parts e)
    (sym c.planned-item.ensures.item)
    (subst
    (λ after. KeepsSources (Raising side dummy due) p old.device (Some (item_planned due)) (Monitor new) after e)
    (sym c.planned-item.ensures.parts)
    (raised_keeps side new dummy due p old.device e come.fits))
