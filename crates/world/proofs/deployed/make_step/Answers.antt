use Rattle.std.proofs.Common.{◌++◌, refl, sym, ap, ◌∙◌, subst}
use Rattle.plain_drive.specs.Physical.{Physical, physical_step, seen}
use Rattle.plain_drive.specs.Seen.{HasStepped}
use Rattle.mediator.specs.Mediator.{FitsDrive, state_of, parts_of}
use Rattle.monitor_state.specs.State.{is_opened}
use Rattle.monitor_state.specs.declared.parts.Parts.{Parts}
use Rattle.monitor_events.specs.Stepping.{plan_due_of}
use Rattle.streaming.specs.Monitor.{item_of}
use Rattle.world.specs.Machine.{device, physical}
use Rattle.world.proofs.Machines.{kept_behind}
use Rattle.world.proofs.Acting.{stepped_acts, step_tells}
use Rattle.world.proofs.KeptEvents.{step_told}
use Rattle.world.proofs.deployed.make_step.Goals as goal

pub stepped-requires-clause-fits : goal.stepped-requires-clause-fits
stepped-requires-clause-fits c =
    let m = c.args.mediator.now in
    let p = physical c.args.machine.now in
    subst (λ (q : Physical). FitsDrive m (seen q).device) (sym c.step-changed.ensures.after)
    (c.steps_keep_the_fit.ensures.stepped (state_of m) (parts_of m) c.args.step _ (seen p)
    (seen (physical_step c.args.step p)) c.step-changed.ensures.lawful c.requires.ready.fits
    (c.a_physical_drive_is_seen.ensures.step c.args.step p))

pub returns-clause-acted : goal.returns-clause-acted
returns-clause-acted c = λ wire. let h = c.stepped.ensures in
    let m = c.args.mediator.now in
    let mid = c.step-changed.new.self in
    stepped_acts c.args.step wire (physical c.args.machine.now) (physical mid) _ _ _ _
    (plan_due_of (state_of m) c.args.step c.step-changed.result (device mid))
    (step_tells (state_of m) c.args.step c.step-changed.result (device mid)) c.step-changed.ensures.after h.reached
    (ap (λ b. kept_behind b) h.rest) refl h.begins
    (ap (λ (q : Parts). record { asking = q.client; opened = is_opened q }) h.others) h.sent
    (h.items ∙ ap (λ before. before ++ item_of
    (plan_due_of (state_of m) c.args.step c.step-changed.result (device mid))) c.requires.items)

pub returns-clause-kept : goal.returns-clause-kept
returns-clause-kept c = λ wire not k q lines honest stand.
    let h = c.stepped.ensures in
    let p = physical c.args.machine.now in
    let made = c.step-changed in
    let mid = physical made.new.self in
    let stepped : HasStepped c.args.step made.result (seen p) (seen mid) =
    subst (λ (x : Physical). HasStepped c.args.step made.result (seen p) (seen x)) (sym made.ensures.after)
    (subst (λ changed. HasStepped c.args.step changed (seen p) (seen (physical_step c.args.step p)))
    (sym made.ensures.answer) (c.a_physical_drive_is_seen.ensures.step c.args.step p)) in
    let goes = h.kept (seen p) (seen mid) refl (record {
      lawful = made.ensures.lawful;
      fits = c.requires.ready.fits;
      between = c.requires.ready.still;
      stepped = stepped;
    }) k q lines c.stepped.new.out.items.items
    (sym (ap (λ before. before ++ c.stepped.new.out.items.items) c.requires.items)) stand in
    record {
      answered = refl;
      goes = goes.0;
      asks = λ tag asked. (h.asks k (seen p).device p.memory q lines c.stepped.new.out.items.items
          (sym (ap (λ before. before ++ c.stepped.new.out.items.items) c.requires.items)) stand).in_time tag asked;
      stand = step_told k _ _ _ _ q lines c.args.step _ _ _ made.ensures.answer goes.1;
    }

pub returns-clause-area : goal.returns-clause-area
returns-clause-area c = ap (λ (q : Parts). q.area) c.stepped.ensures.others

pub returns-clause-id : goal.returns-clause-id
returns-clause-id c = ap (λ (q : Parts). q.id) c.stepped.ensures.others
