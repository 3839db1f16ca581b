use Rattle.std.specs.Prelude.{Err}
use Rattle.bmcast.specs.declared.play.Progress.{Progress}
use Rattle.bmcast.proofs.StopLaws.{bad_line_from}
use Rattle.bmcast.proofs.PlayedLaws.{played_out, failed_behind}
use Rattle.bmcast.proofs.play.play_line.Goals as goal

pub returns-in-Ok-expect_end-clause-progress : goal.returns-in-Ok-expect_end-clause-progress
returns-in-Ok-expect_end-clause-progress g c = λ start was.
    played_out start c.do_line.new.streams c.expect_end.new.streams (g.H.Host.outside c.do_line.new.host)
    (g.H.Host.outside c.expect_end.new.host) _ c.args.number
    c.in-Ok-expect_end.ensures.files c.in-Ok-expect_end.ensures.looked c.in-Ok-expect_end.ensures.end
    c.in-Ok-expect_end.ensures.said
    (rw c.in-Ok-Ended.field-0-is at (c.in-Ok-Ended.ensures.done start (c.in-Ok.ensures.taken start _ was)))

pub returns-in-Err-expect_end-clause-bad : goal.returns-in-Err-expect_end-clause-bad
returns-in-Err-expect_end-clause-bad g c =
    bad_line_from {T = Progress} (Err c.in-Err-expect_end.stop) _ _ _
    (λ bad kind said fails start was.
    failed_behind start c.do_line.new.streams c.expect_end.new.streams (g.H.Host.outside c.do_line.new.host)
    (g.H.Host.outside c.expect_end.new.host) _ c.args.number bad kind
    c.in-Err-expect_end.ensures.files c.in-Err-expect_end.ensures.looked said fails.0 fails.1 fails.2
    (rw c.in-Ok-Ended.field-0-is at (c.in-Ok-Ended.ensures.done start (c.in-Ok.ensures.taken start _ was))))
    c.in-Err-expect_end.ensures.said c.in-Err-expect_end.ensures.bad
