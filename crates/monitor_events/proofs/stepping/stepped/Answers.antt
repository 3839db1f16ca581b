use Rattle.std.proofs.Common.{[], sym, subst}
use Rattle.monitor_state.specs.declared.state.State.TheVariants.{Guest}
use Rattle.monitor_state.specs.GoesOn.{GoesOn}
use Rattle.monitor_state.specs.Sourced.{KeepsSources}
use Rattle.streaming.specs.Monitor.{item_of}
use Rattle.monitor_events.specs.Shown.{HasComeTo}
use Rattle.monitor_events.specs.Stepping.{plan_of_step}
use Rattle.monitor_events.proofs.GuestsSteps.{guests_step_shown}
use Rattle.monitor_events.proofs.Sources.{guests_step_keeps, unseen_keeps}
use Rattle.monitor_events.proofs.Unseen.{unseen_shown}
use Rattle.monitor_events.proofs.stepping.stepped.Goals as goal

pub returns-in-Guest-clause-shown : goal.returns-in-Guest-clause-shown
returns-in-Guest-clause-shown g c old now at come =
    let p = c.args.parts.now in
    let side = Guest c.in-Guest.side in
    subst (λ s. GoesOn s p old.device old.memory (item_of c.guest_plan.result) side p
    (g.P.Ports.device c.args.ports.now) now.memory) (sym c.in-Guest.is)
    (subst (λ told. GoesOn side p old.device old.memory (item_of told) side p (g.P.Ports.device c.args.ports.now)
    now.memory) (sym c.guest_plan.ensures)
    (subst (λ d. GoesOn side p old.device old.memory (item_of (plan_of_step c.args.step c.args.changed)) side p d
    now.memory) at
    (guests_step_shown c.in-Guest.side p c.args.step c.args.changed old now
    (subst (λ s. HasComeTo s p c.args.step c.args.changed old now) c.in-Guest.is come))))

pub returns-in-Raising-clause-shown : goal.returns-in-Raising-clause-shown
returns-in-Raising-clause-shown g c old now at come =
    let p = c.args.parts.now in
    subst (λ s. GoesOn s p old.device old.memory (item_of c.raised.result.1) c.raised.result.0 c.raised.new.parts
    (g.P.Ports.device c.raised.new.ports) now.memory) (sym c.in-Raising.is)
    (c.raised.ensures.shown c.args.step c.args.changed old now at
    (subst (λ s. HasComeTo s p c.args.step c.args.changed old now) c.in-Raising.is come))

pub returns-in_default-clause-shown : goal.returns-in_default-clause-shown
returns-in_default-clause-shown g c old now at come =
    let p = c.args.parts.now in
    let s = c.args.state in
    subst (λ d. GoesOn s p old.device old.memory [] s p d now.memory) at
    (unseen_shown s p c.args.step c.args.changed old now come c.in_default.not-Guest c.in_default.not-Raising)

pub returns-in-Guest-clause-sources : goal.returns-in-Guest-clause-sources
returns-in-Guest-clause-sources g c old now at come =
    let p = c.args.parts.now in
    let side = Guest c.in-Guest.side in
    subst (λ s. KeepsSources s p old.device c.guest_plan.result side p (g.P.Ports.device c.args.ports.now))
    (sym c.in-Guest.is)
    (subst (λ told. KeepsSources side p old.device told side p (g.P.Ports.device c.args.ports.now))
    (sym c.guest_plan.ensures)
    (subst (λ d. KeepsSources side p old.device (plan_of_step c.args.step c.args.changed) side p d) at
    (guests_step_keeps c.in-Guest.side p c.args.step c.args.changed old now
    (subst (λ s. HasComeTo s p c.args.step c.args.changed old now) c.in-Guest.is come))))

pub returns-in-Raising-clause-sources : goal.returns-in-Raising-clause-sources
returns-in-Raising-clause-sources g c old now at come =
    let p = c.args.parts.now in
    subst (λ s. KeepsSources s p old.device c.raised.result.1 c.raised.result.0 c.raised.new.parts
    (g.P.Ports.device c.raised.new.ports)) (sym c.in-Raising.is)
    (c.raised.ensures.sources c.args.step c.args.changed old now at
    (subst (λ s. HasComeTo s p c.args.step c.args.changed old now) c.in-Raising.is come))

pub returns-in_default-clause-sources : goal.returns-in_default-clause-sources
returns-in_default-clause-sources g c old now at come =
    unseen_keeps c.args.state c.args.parts.now old.device (g.P.Ports.device c.args.ports.now) c.in_default.not-Guest
