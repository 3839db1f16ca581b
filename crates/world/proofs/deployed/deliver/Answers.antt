use Rattle.std.proofs.Common.{sym, ap, ◌∙◌}
use Rattle.monitor_state.specs.declared.parts.Parts.{Parts}
use Rattle.world.proofs.KeptEvents.{reply_kept, silence_kept}
use Rattle.world.proofs.deployed.deliver.Goals as goal

pub returns-in-Some-clause-kept : goal.returns-in-Some-clause-kept
returns-in-Some-clause-kept c = λ way place keep wire p is.
    reply_kept way place keep wire c.in-Some.frame c.args.mediator.now c.frame_in.new.self p _ _ (sym is ∙ c.in-Some.is)
    (c.frame_in.ensures.unmarked (λ injected. cc)) c.frame_in.ensures.kept

pub returns-in_default-clause-kept : goal.returns-in_default-clause-kept
returns-in_default-clause-kept c = λ way place keep wire p is.
    silence_kept way place keep wire c.args.mediator.now p (sym is ∙ c.in_default.is)

pub returns-in-Some-clause-area : goal.returns-in-Some-clause-area
returns-in-Some-clause-area c = ap (λ (p : Parts). p.area) c.frame_in.ensures.heard.others

pub returns-in-Some-clause-id : goal.returns-in-Some-clause-id
returns-in-Some-clause-id c = ap (λ (p : Parts). p.id) c.frame_in.ensures.heard.others
