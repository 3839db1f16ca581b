use Rattle.bmcast.proofs.PlayedLaws.{failed_on}
use Rattle.bmcast.proofs.run.play_to_end.Goals as goal

pub returns-in-Ok-flush-clause-bad : goal.returns-in-Ok-flush-clause-bad
returns-in-Ok-flush-clause-bad g c = λ start was.
    failed_on start c.play.new.streams c.flush.new.self (g.H.Host.outside c.play.new.host)
    (g.H.Host.outside c.flush.new.host) _ c.in-Err-BadLine.number c.in-Err-BadLine.fault
    c.in-Ok-flush.ensures.files c.in-Ok-flush.ensures.looked c.in-Ok-flush.ensures.said
    ((rw c.in-Err-BadLine.field-0-is at c.in-Err-BadLine.ensures.bad) start was)
