use Rattle.std.proofs.Common.{Ok, Err}
use Rattle.schedule_text.proofs.Grammar.{only_said, only_number}
use Rattle.schedule_text.proofs.read.read_line.Goals as goal

pub returns-clause-only : goal.returns-clause-only
returns-clause-only c = only_said c.args.line.now (Ok c.read_event.new.event) c.in_ok-read_event.ensures.reads

pub returns-clause-number : goal.returns-clause-number
returns-clause-number c =
    let reads = c.in_ok-read_event.ensures.reads in
    ((λ is. absurd (cc)), only_number c.args.line.now (Ok c.read_event.new.event) reads)

pub returns-in_err-read_event-clause-only : goal.returns-in_err-read_event-clause-only
returns-in_err-read_event-clause-only c = λ e said.
    let fault = c.in_err-read_event in
    absurd (cc (only_said c.args.line.now (Err fault.field-0.0) fault.ensures.reads e said))
