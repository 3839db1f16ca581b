use Rattle.std.proofs.Common.{◌≡◌, refl, subst}
use Rattle.aoe_frame.specs.declared.message.Aoe.{Aoe}
use Rattle.aoe_client.specs.Messages.{IsAnswer}
use Rattle.aoe_client.proofs.Replies.{answers_long}
use Rattle.aoe_client.proofs.messages.answered_by.Goals as goal

pub returns-in-Ok-clause-tag : goal.returns-in-Ok-clause-tag
returns-in-Ok-clause-tag c tag =
    let message = c.in-Ok.message in (
      λ is. (message, ((c.in-Ok.ensures.message message).0 refl, (c.tag_of.ensures tag).0 is)),
      λ a.
          let one = (c.in-Ok.ensures.message a.0).1 a.1.0 in
          let same : a.0 ≡ message = cc in
          (c.tag_of.ensures tag).1 (subst (λ (m : Aoe). IsAnswer m tag) same a.1.1),
    )

pub returns-in-Ok-clause-long : goal.returns-in-Ok-clause-long
returns-in-Ok-clause-long c tag is =
    let message = c.in-Ok.message in
    answers_long c.args.frame.now tag (message, ((c.in-Ok.ensures.message message).0 refl, (c.tag_of.ensures tag).0 is))
