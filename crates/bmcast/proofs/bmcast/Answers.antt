use Rattle.bmcast.proofs.StopLaws.{caused, left_and_told, told_since, unless_done, bad_line_status}
use Rattle.bmcast.proofs.RunLaws.{bad_line_told}
use Rattle.bmcast.proofs.OwedLaws.{owed_answer, owed_stop}
use Rattle.bmcast.proofs.Reasons.{come_and_told}
use Rattle.bmcast.specs.Stop.{status_of}
use Rattle.bmcast.specs.StatusLine.{status_line}
use Rattle.run_words.specs.Pairs.{texts}
use Rattle.bmcast.specs.declared.Status.TheVariants.{Done}
use Rattle.bmcast.proofs.bmcast.Goals as goal

pub returns-in-Err-clause-cause : goal.returns-in-Err-clause-cause
returns-in-Err-clause-cause g c = rw c.report_stop.ensures.status
    (caused _ _ _ c.in-Err.stop c.in-Err.ensures.counts c.report_stop.ensures.counts)

pub returns-in-Err-clause-told : goal.returns-in-Err-clause-told
returns-in-Err-clause-told g c = unless_done c.report_stop.result
    (told_since (status_line c.report_stop.result) (g.H.Host.outside c.args.host.now) (g.H.Host.outside c.run.new.host)
    (g.H.Host.outside c.report_stop.new.host) c.in-Err.stop c.in-Err.ensures.counts c.in-Err.ensures.console
    c.report_stop.ensures.told)

pub returns-in-Err-clause-bad_line : goal.returns-in-Err-clause-bad_line
returns-in-Err-clause-bad_line g c = rw c.report_stop.ensures.status
    (bad_line_status (Unit {0}) c.in-Err.stop _ _
    (λ number kind. bad_line_told _ _ _ _ number kind c.report_stop.ensures.elsewhere c.report_stop.ensures.looked)
    c.in-Err.ensures.bad)

pub returns-in-Err-clause-reason : goal.returns-in-Err-clause-reason
returns-in-Err-clause-reason g c = rw c.report_stop.ensures.status c.in-Err.ensures.reason

pub returns-in-Err-clause-came : goal.returns-in-Err-clause-came
returns-in-Err-clause-came g c = rw c.report_stop.ensures.status
    (come_and_told (texts c.args.words.now) (g.H.Host.outside c.args.host.now) (g.H.Host.outside c.run.new.host)
    (g.H.Host.outside c.report_stop.new.host) c.report_stop.ensures.elsewhere (status_of c.in-Err.stop)
    c.in-Err.ensures.came)

pub returns-in-Err-clause-files : goal.returns-in-Err-clause-files
returns-in-Err-clause-files g c = rw c.report_stop.ensures.status
    (left_and_told (g.H.Host.outside c.args.host.now) (g.H.Host.outside c.run.new.host)
    (g.H.Host.outside c.report_stop.new.host) c.in-Err.stop c.in-Err.ensures.files c.report_stop.ensures.elsewhere)

pub returns-in-Ok-clause-owed : goal.returns-in-Ok-clause-owed
returns-in-Ok-clause-owed g c = owed_answer (texts c.args.words.now) (g.H.Host.outside c.args.host.now)
    (g.H.Host.outside c.run.new.host) Done c.in-Ok.ensures.reason tt c.in-Ok.ensures.done c.in-Ok.ensures.counts

pub returns-in-Err-clause-owed : goal.returns-in-Err-clause-owed
returns-in-Err-clause-owed g c = rw c.report_stop.ensures.status
    (owed_stop (texts c.args.words.now) (g.H.Host.outside c.args.host.now) (g.H.Host.outside c.report_stop.new.host)
    c.in-Err.stop c.in-Err.ensures.reason
    (bad_line_status (Unit {0}) c.in-Err.stop _ _
    (λ number kind. bad_line_told _ _ _ _ number kind c.report_stop.ensures.elsewhere c.report_stop.ensures.looked)
    c.in-Err.ensures.bad)
    (caused _ _ _ c.in-Err.stop c.in-Err.ensures.counts c.report_stop.ensures.counts))
