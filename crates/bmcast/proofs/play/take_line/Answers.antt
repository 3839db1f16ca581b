use Rattle.bmcast.proofs.Lines.{told_line, told_last, told_none, told_long}
use Rattle.bmcast.proofs.PlayedLaws.{line_taken, none_taken}
use Rattle.bmcast.proofs.play.take_line.Goals as goal

pub returns-in-Line-clause-taken : goal.returns-in-Line-clause-taken
returns-in-Line-clause-taken g c = λ start now.
    line_taken start _ _ (g.H.Host.outside c.args.host.now) (g.H.Host.outside c.next_line.new.host) now _ c.args.number
    c.in_ok-next_line.ensures.files c.in_ok-next_line.ensures.looked c.in_ok-next_line.ensures.said
    (told_line _ _ _ c.next_line.new.line.items (rw c.in-Line.is at c.in_ok-next_line.ensures.line))

pub returns-in-LastLine-clause-taken : goal.returns-in-LastLine-clause-taken
returns-in-LastLine-clause-taken g c = λ start now.
    line_taken start _ _ (g.H.Host.outside c.args.host.now) (g.H.Host.outside c.next_line.new.host) now _ c.args.number
    c.in_ok-next_line.ensures.files c.in_ok-next_line.ensures.looked c.in_ok-next_line.ensures.said
    (told_last _ _ _ c.next_line.new.line.items (rw c.in-LastLine.is at c.in_ok-next_line.ensures.line))

pub returns-in-Nothing-clause-bad : goal.returns-in-Nothing-clause-bad
returns-in-Nothing-clause-bad g c = λ start now.
    none_taken start _ _ (g.H.Host.outside c.args.host.now) (g.H.Host.outside c.next_line.new.host) now c.args.number _
    c.in_ok-next_line.ensures.files c.in_ok-next_line.ensures.looked c.in_ok-next_line.ensures.said
    (told_none _ _ _ c.next_line.new.line.items c.args.number c.requires.number
    (rw c.in-Nothing.is at c.in_ok-next_line.ensures.line))

pub returns-in-TooLong-clause-bad : goal.returns-in-TooLong-clause-bad
returns-in-TooLong-clause-bad g c = λ start now.
    none_taken start _ _ (g.H.Host.outside c.args.host.now) (g.H.Host.outside c.next_line.new.host) now c.args.number _
    c.in_ok-next_line.ensures.files c.in_ok-next_line.ensures.looked c.in_ok-next_line.ensures.said
    (told_long _ _ _ c.next_line.new.line.items c.args.number c.requires.number
    (rw c.in-TooLong.is at c.in_ok-next_line.ensures.line))
