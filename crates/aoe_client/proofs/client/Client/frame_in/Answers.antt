use Rattle.std.proofs.Common.{sym, ◌∙◌}
use Rattle.aoe_client.specs.Asking.{is_awaited}
use Rattle.aoe_client.proofs.Hearing.{took_none, took_one, took_other}
use Rattle.aoe_client.proofs.client.Client.frame_in.Goals as goal

pub returns-in_default-clause-took : goal.returns-in_default-clause-took
returns-in_default-clause-took c = took_none (λ tag. is_awaited tag c.args.self.now) c.in_default.ensures.tag

pub returns-then-hear-clause-took : goal.returns-then-hear-clause-took
returns-then-hear-clause-took c =
    took_one (λ tag. is_awaited tag c.args.self.now) c.in-Some.tag c.in-Some.ensures.tag
    (sym c.hear.ensures.awaited ∙ c.if-hear.true)

pub returns-else-hear-clause-took : goal.returns-else-hear-clause-took
returns-else-hear-clause-took c =
    took_other (λ tag. is_awaited tag c.args.self.now) c.in-Some.tag c.in-Some.ensures.tag
    (sym c.hear.ensures.awaited ∙ c.if-hear.false)
