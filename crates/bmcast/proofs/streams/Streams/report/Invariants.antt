use Rattle.std.proofs.Common.{take}
use Rattle.plain_run.specs.Entry.{items_text}
use Rattle.bmcast.proofs.Reporting.{ReportsFront}
use Rattle.bmcast.proofs.streams.Streams.report.Given as goal

abbrev pub invariant-loop-item : goal.invariant-loop-item
invariant-loop-item g l = ReportsFront l.initial.self l.self (g.H.Host.outside l.initial.host) (g.H.Host.outside l.host)
    (items_text l.number (take l.item-index l.out.items.items) l.out.bytes.items)
