use Rattle.std.proofs.Common.{ℕ}
use Rattle.std.specs.Prelude.{Err}
use Rattle.bmcast.proofs.StopLaws.{bad_line_weaker}
use Rattle.bmcast.proofs.PlayedLaws.{PlaysOn-more}
use Rattle.bmcast.proofs.play.play.Goals as goal

pub returns-in-Ok-Ended-clause-ended : goal.returns-in-Ok-Ended-clause-ended
returns-in-Ok-Ended-clause-ended g c = λ start was.
    rw c.in-Ok-Ended.field-0-is at (c.in-Ok-Ended.ensures.progress start (c.loop-number.invariant.played start was))

pub returns-in-Err-clause-bad : goal.returns-in-Err-clause-bad
returns-in-Err-clause-bad g c =
    bad_line_weaker {T = ℕ} (Err c.in-Err.stop) _ _
    (λ bad kind fails start was. fails start (c.loop-number.invariant.played start was))
    c.in-Err.ensures.bad

pub loop-number-preserved : goal.loop-number-preserved
loop-number-preserved g c =
    PlaysOn-more c.args.image _ _ _ _ _ _ _ _ _ c.loop-number.number c.loop-number.invariant
    c.in-Ok-More.ensures.counts c.in-Ok-More.ensures.files c.in-Ok-More.ensures.looked c.in-Ok-More.ensures.over
    (λ start was. rw c.in-Ok-More.field-0-is at (c.in-Ok-More.ensures.progress start was))
    (c.in-Ok-More.ensures.more c.in-Ok-More.field-0-is)
