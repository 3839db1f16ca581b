use Rattle.std.proofs.Common.{◌-◌, length}
use Rattle.schedule_text.specs.declared.TheConstants.{LINE_BYTES}
use Rattle.bmcast.proofs.Reading.{TakesFront}
use Rattle.bmcast.proofs.streams.Streams.next_line.Given as goal

abbrev pub invariant-loop-byte : goal.invariant-loop-byte
invariant-loop-byte g l = TakesFront l.initial.self l.self (g.H.Host.outside l.initial.host)
    (g.H.Host.outside l.host) l.line.items

abbrev pub decreases-loop-byte : goal.decreases-loop-byte
decreases-loop-byte g l = LINE_BYTES - length l.line.items
