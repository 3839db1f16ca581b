use Rattle.std.specs.Prelude.{Err}
use Rattle.std.proofs.Common.{◌∙◌}
use Rattle.std.proofs.lemmas.Result.{on_ok_weaker}
use Rattle.run_words.specs.Options.{seen}
use Rattle.bmcast.proofs.StopLaws.{bad_line_weaker, left_at_end, left_at_play, stopped_after}
use Rattle.bmcast.proofs.RunLaws.{done, bad_line, started_over}
use Rattle.bmcast.proofs.run.run_events.Goals as goal

pub returns-in-Ok-report_run-clause-done : goal.returns-in-Ok-report_run-clause-done
returns-in-Ok-report_run-clause-done g c = on_ok_weaker c.end_run.result
    (λ out.
    done (g.H.Host.outside c.args.host.now) (g.H.Host.outside c.begin_files.new.host)
    (g.H.Host.outside c.start.new.host) (g.H.Host.outside c.report_run.new.host) (g.H.Host.outside c.end_run.new.host)
    c.in-Ok-start.world c.report_run.new.world (seen c.args.options.now) c.args.setup.now.area.image
    c.in-Ok.ensures.files c.in-Ok-start.ensures.bytes c.in-Ok-report_run.ensures.files c.end_run.ensures.files
    (c.in-Ok-start.ensures.looked ∙ c.in-Ok.ensures.looked) c.end_run.ensures.looked
    (started_over _ c.args.setup.now.area c.args.setup.now.id _ _ c.in-Ok-start.world c.in-Ok.ensures.files
    c.requires.area c.requires.id c.in-Ok-start.ensures.began c.in-Ok-start.ensures.count
    c.in-Ok-start.ensures.sectors c.in-Ok-start.ensures.disk c.in-Ok-start.ensures.stands)
    c.in-Ok-report_run.ensures.reported out)
    c.end_run.ensures.out

pub returns-in-Err-report_run-clause-bad : goal.returns-in-Err-report_run-clause-bad
returns-in-Err-report_run-clause-bad g c =
    bad_line_weaker {T = Unit {0}} (Err c.in-Err-report_run.stop) _ _
    (λ number kind stopped.
    bad_line (g.H.Host.outside c.args.host.now) (g.H.Host.outside c.begin_files.new.host)
    (g.H.Host.outside c.start.new.host) (g.H.Host.outside c.report_run.new.host)
    c.in-Ok-start.world c.report_run.new.world (seen c.args.options.now) c.args.setup.now.area.image
    number kind
    c.in-Ok.ensures.files c.in-Ok.ensures.ready c.in-Ok-start.ensures.bytes c.in-Err-report_run.ensures.files
    (c.in-Ok-start.ensures.looked ∙ c.in-Ok.ensures.looked)
    (started_over _ c.args.setup.now.area c.args.setup.now.id _ _ c.in-Ok-start.world c.in-Ok.ensures.files
    c.requires.area c.requires.id c.in-Ok-start.ensures.began c.in-Ok-start.ensures.count
    c.in-Ok-start.ensures.sectors c.in-Ok-start.ensures.disk c.in-Ok-start.ensures.stands)
    stopped)
    c.in-Err-report_run.ensures.bad

pub returns-in-Ok-report_run-clause-files : goal.returns-in-Ok-report_run-clause-files
returns-in-Ok-report_run-clause-files g c = λ role left.
    let both = left_at_end c.end_run.result c.end_run.ensures.stops role left in
    c.end_run.ensures.files role both.1 ∙ c.in-Ok-report_run.ensures.files role both.0
    ∙ c.in-Ok-start.ensures.bytes.told role ∙ c.in-Ok.ensures.files role both

pub returns-in-Err-report_run-clause-files : goal.returns-in-Err-report_run-clause-files
returns-in-Err-report_run-clause-files g c = λ role left.
    let both = left_at_play c.in-Err-report_run.stop c.in-Err-report_run.ensures.stops role left in
    c.in-Err-report_run.ensures.files role both.0 ∙ c.in-Ok-start.ensures.bytes.told role
    ∙ c.in-Ok.ensures.files role both

pub returns-in-Err-report_run-clause-counts : goal.returns-in-Err-report_run-clause-counts
returns-in-Err-report_run-clause-counts g c =
    stopped_after _ _ _ c.in-Err-report_run.stop c.in-Ok.ensures.counts
    (stopped_after _ _ _ c.in-Err-report_run.stop c.in-Ok-start.ensures.fault c.in-Err-report_run.ensures.counts)
