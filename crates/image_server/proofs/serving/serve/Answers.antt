use Rattle.std.proofs.Common.{◌≡◌, Ok, Err, option_map}
use Rattle.bm_host.specs.declared.Role.TheVariants.{Image}
use Rattle.aoe_frame.specs.Layout.{frame_of}
use Rattle.image_server.specs.Reply.{reply}
use Rattle.image_server.specs.Serving.{LooksAtMost}
use Rattle.image_server.proofs.Images.{over_any}
use Rattle.image_server.proofs.Served.{answer_read, answer_result, needed_result, sent_read}
use Rattle.image_server.proofs.serving.serve.Goals as goal

pub returns-in-Ok-clause-answer : goal.returns-in-Ok-clause-answer
returns-in-Ok-clause-answer g c =
    answer_result c.args.sectors ((g.H.Host.outside c.args.host.now).told Image) c.args.frame.now
    (Ok c.in-Ok.message) c.serve_message.result
    c.in-Ok.ensures.reads c.serve_message.ensures.answer

pub returns-in-Ok-clause-needed : goal.returns-in-Ok-clause-needed
returns-in-Ok-clause-needed g c =
    needed_result c.args.sectors c.args.frame.now (Ok c.in-Ok.message) c.serve_message.result c.in-Ok.ensures.reads
    c.serve_message.ensures.needed

pub returns-in-Ok-clause-looked : goal.returns-in-Ok-clause-looked
returns-in-Ok-clause-looked g c =
    sent_read c.args.sectors c.args.frame.now (Ok c.in-Ok.message)
    (λ n. LooksAtMost n (g.H.Host.outside c.args.host.now) (g.H.Host.outside c.serve_message.new.host))
    c.in-Ok.ensures.reads c.serve_message.ensures.looked

pub returns-in-Err-clause-answer : goal.returns-in-Err-clause-answer
returns-in-Err-clause-answer g c =
    let told = (g.H.Host.outside c.args.host.now).told Image in
    answer_read c.args.sectors told c.args.frame.now (Err c.in-Err.fault) c.refuse.result c.in-Err.ensures.reads
    (over_any c.args.sectors told (λ image. c.refuse.result ≡ option_map frame_of
    (reply c.args.sectors image (Err c.in-Err.fault)))
    (λ image. c.refuse.ensures.answer c.args.sectors image))
