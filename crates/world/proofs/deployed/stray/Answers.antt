use Rattle.std.proofs.Common.{true, [], ◌∷◌, ◌++◌, refl, ap, ◌∙◌, subst}
use Rattle.monitor_state.specs.State.{is_opened}
use Rattle.monitor_state.specs.declared.parts.Parts.{Parts}
use Rattle.schedule_text.specs.declared.Item.TheVariants.{Forged}
use Rattle.aoe_net.specs.declared.way.Way.TheVariants.{ToServer}
use Rattle.schedule_text.specs.declared.Event.TheVariants.{Stray}
use Rattle.mediator.specs.Couples.{KeepsHeard}
use Rattle.world.proofs.Acting.{stray_acts}
use Rattle.world.proofs.KeptEvents.{is_quiet, quiet_kept, stray_kept}
use Rattle.world.proofs.deployed.stray.Goals as goal

pub returns-in-ToClient-clause-acted : goal.returns-in-ToClient-clause-acted
returns-in-ToClient-clause-acted c = λ wire p. let r = c.frame_in.ensures in
    rw c.in-ToClient.is (stray_acts c.args.frame.now wire p _ _ _
    (ap (λ (q : Parts). is_opened q) r.heard.others) r.sent
    (λ takes. r.marked refl takes ∙ ap (λ before. before ++ Forged ∷ []) c.requires.items)
    (λ none. r.unmarked (λ is. none) ∙ c.requires.items)
    (record { what = r.heard.what; took = r.heard.took; after = r.heard.client }))

pub returns-in-ToClient-clause-kept : goal.returns-in-ToClient-clause-kept
returns-in-ToClient-clause-kept c = λ wire p. let r = c.frame_in.ensures in
    rw c.in-ToClient.is (stray_kept c.args.frame.now wire c.args.mediator.now c.frame_in.new.self p _
    (λ takes. r.marked refl takes ∙ ap (λ before. before ++ Forged ∷ []) c.requires.items)
    (λ none. r.unmarked (λ is. none) ∙ c.requires.items)
    (subst (λ before. KeepsHeard c.args.frame.now true before c.frame_in.new.out.items.items c.args.mediator.now
    c.frame_in.new.self) c.requires.items r.kept))

pub returns-in-ToServer-clause-kept : goal.returns-in-ToServer-clause-kept
returns-in-ToServer-clause-kept c = λ wire p not k q lines honest stand.
    rw c.in-ToServer.is (quiet_kept (Stray ToServer c.args.frame.now) wire k c.args.mediator.now c.args.mediator.now p p
    c.args.out.now.items.items [] q lines (ap is_quiet c.requires.items) refl stand)

pub returns-in-ToClient-clause-area : goal.returns-in-ToClient-clause-area
returns-in-ToClient-clause-area c = ap (λ (p : Parts). p.area) c.frame_in.ensures.heard.others

pub returns-in-ToClient-clause-id : goal.returns-in-ToClient-clause-id
returns-in-ToClient-clause-id c = ap (λ (p : Parts). p.id) c.frame_in.ensures.heard.others
