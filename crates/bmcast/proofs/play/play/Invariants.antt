use Rattle.bmcast.proofs.PlayedLaws.{PlaysOn}
use Rattle.bmcast.proofs.play.play.Given as goal

abbrev pub invariant-loop-number : goal.invariant-loop-number
invariant-loop-number g l = PlaysOn l.image l.initial.streams l.streams (g.H.Host.outside l.initial.host)
    (g.H.Host.outside l.host) l.initial.world l.world l.number
