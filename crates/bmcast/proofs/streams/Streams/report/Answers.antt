use Rattle.std.proofs.Common.{arith}
use Rattle.schedule_text.specs.declared.Item.TheVariants.{Answer}
use Rattle.bmcast.proofs.Reporting.{ReportsFront-line}
use Rattle.bmcast.proofs.streams.Streams.report.Goals as goal

pub loop-item-preserved : goal.loop-item-preserved
loop-item-preserved g c =
    ReportsFront-line c.args.self.now c.loop-item.self c.report_item.new.self (g.H.Host.outside c.args.host.now)
    (g.H.Host.outside c.loop-item.host) (g.H.Host.outside c.report_item.new.host)
    c.args.number c.loop-item.item-index c.args.out.now.items.items c.as_slice-item-items.result.now
    Answer c.args.out.now.bytes.items
    c.as_slice-item-items.ensures.value (grind arith) c.loop-item.invariant c.in_ok-report_item.ensures.counts
    c.in_ok-report_item.ensures.files c.in_ok-report_item.ensures.looked
    (rw c.as_slice.ensures.value at c.in_ok-report_item.ensures.reported)
