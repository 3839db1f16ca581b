use Rattle.std.proofs.lemmas.Result.{on_ok_weaker}
use Rattle.run_words.specs.Options.{seen}
use Rattle.bmcast.proofs.StopLaws.{bad_line_weaker, counted_after}
use Rattle.bmcast.proofs.RunLaws.{done_from, bad_line_since}
use Rattle.bmcast.proofs.Reasons.{late_come, late_reason, early_come, early_reason, early_no_bad_line}
use Rattle.bmcast.proofs.run.run.Goals as goal

pub returns-clause-counts : goal.returns-clause-counts
returns-clause-counts g c = counted_after (g.H.Host.outside c.args.host.now) (g.H.Host.outside c.survey.new.host)
    (g.H.Host.outside c.run_events.new.host) c.run_events.result c.in-Ok.ensures.counts c.run_events.ensures.counts

pub returns-clause-done : goal.returns-clause-done
returns-clause-done g c = on_ok_weaker c.run_events.result
    (λ done. record {
      choice = seen c.in-Some.options;
      says = c.in-Some.ensures.found;
      holds = done_from _ _ _ _ c.in-Ok.ensures.files c.in-Ok.ensures.looked done;
    })
    c.run_events.ensures.done

pub returns-clause-bad : goal.returns-clause-bad
returns-clause-bad g c = bad_line_weaker c.run_events.result _ _
    (λ number kind bad. record {
      choice = seen c.in-Some.options;
      says = c.in-Some.ensures.found;
      holds = bad_line_since _ _ _ _ number kind c.in-Ok.ensures.files c.in-Ok.ensures.looked bad;
    })
    c.run_events.ensures.bad

pub returns-clause-reason : goal.returns-clause-reason
returns-clause-reason g c = late_reason _ _ (seen c.in-Some.options) c.run_events.result c.in-Some.ensures.found
    c.in-Ok.ensures.can c.run_events.ensures.late

pub returns-in-Err-clause-bad : goal.returns-in-Err-clause-bad
returns-in-Err-clause-bad g c = early_no_bad_line (Unit {0}) _ _ c.in-Err.stop _ c.in-Err.ensures.stops

pub returns-in-Err-clause-reason : goal.returns-in-Err-clause-reason
returns-in-Err-clause-reason g c = early_reason _ _ (seen c.in-Some.options) c.in-Err.stop c.in-Some.ensures.found
    c.in-Err.ensures.stops

pub returns-in-Err-clause-came : goal.returns-in-Err-clause-came
returns-in-Err-clause-came g c = early_come _ _ _ _ _ c.in-Err.stop c.in-Err.ensures.stops c.in-Err.ensures.unopened

pub returns-clause-came : goal.returns-clause-came
returns-clause-came g c = late_come _ _ _ c.run_events.result
    (record { choice = seen c.in-Some.options; says = c.in-Some.ensures.found; holds = c.in-Ok.ensures.can })
    c.run_events.ensures.late c.run_events.ensures.opened
