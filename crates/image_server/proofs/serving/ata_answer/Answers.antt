use Rattle.std.proofs.Common.{sym, ◌∙◌, ap}
use Rattle.image_server.specs.declared.reply.TheConstants.{GOOD_STATUS, NO_ERROR}
use Rattle.bm_host.specs.declared.Role.TheVariants.{Image}
use Rattle.image_server.specs.declared.request.Asked.TheVariants.{Identity}
use Rattle.image_server.specs.Reply.{answered}
use Rattle.image_server.proofs.Served.{answer_plain, answer_sectors}
use Rattle.image_server.proofs.serving.ata_answer.Goals as goal

pub returns-in_ok-body-in-Sectors-clause-answer : goal.returns-in_ok-body-in-Sectors-clause-answer
returns-in_ok-body-in-Sectors-clause-answer g c =
    answer_sectors c.args.sectors ((g.H.Host.outside c.args.host.now).told Image) c.args.part.now
    c.answered.result c.in_ok-body-in-Sectors.body
    (sym c.asked_in.ensures.asked ∙ c.in-Sectors.is) c.answered.ensures.part c.in_ok-body-in-Sectors.ensures.count
    c.in_ok-body-in-Sectors.ensures.body

pub returns-in-Identity-clause-answer : goal.returns-in-Identity-clause-answer
returns-in-Identity-clause-answer g c =
    answer_plain c.args.sectors ((g.H.Host.outside c.args.host.now).told Image) c.args.part.now
    c.answered-in-Identity.result Identity
    (sym c.asked_in.ensures.asked ∙ c.in-Identity.is)
    (λ image. c.answered-in-Identity.ensures.part
    ∙ ap (answered c.args.part.now NO_ERROR GOOD_STATUS) c.server_identity.ensures.bytes)
