use Rattle.std.proofs.Common.{◌∙◌}
use Rattle.streaming.proofs.Empty.{hands_empty}
use Rattle.bmcast.proofs.EventLaws.{empty_unlooked, hands_reaches}
use Rattle.bmcast.proofs.play.do_event.Goals as goal

pub returns-in-Ok-clause-looked : goal.returns-in-Ok-clause-looked
returns-in-Ok-clause-looked g c = λ empty.
    c.report.ensures.looked
    ∙ empty_unlooked (g.H.Host.outside c.flush_before.new.host) (g.H.Host.outside c.apply.new.host)
    c.args.world.now.scene c.apply.new.self.scene _ (c.requires.over.image ∙ empty) c.in-Ok.ensures.event
    ∙ c.in_ok-flush_before.ensures.looked

pub returns-in-Err-clause-looked : goal.returns-in-Err-clause-looked
returns-in-Err-clause-looked g c = λ empty.
    absurd (hands_empty c.args.event.now c.args.world.now.scene (c.requires.over.image ∙ empty) c.in-Err.ensures.needed)

pub returns-in-Err-clause-written : goal.returns-in-Err-clause-written
returns-in-Err-clause-written g c = λ is.
    c.in_ok-flush_before.ensures.written
    (λ empty.
    hands_empty c.args.event.now c.args.world.now.scene (c.requires.over.image ∙ empty) c.in-Err.ensures.needed)
    (hands_reaches c.args.event.now c.args.world.now.scene c.in-Err.ensures.needed)
