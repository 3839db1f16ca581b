use Rattle.std.specs.Prelude.{Err}
use Rattle.bmcast.proofs.RunLaws.{reported, stopped}
use Rattle.bmcast.proofs.StopLaws.{bad_line_both}
use Rattle.bmcast.proofs.run.report_run.Goals as goal

pub returns-clause-reported : goal.returns-clause-reported
returns-clause-reported g c =
    reported c.new-streams.result c.play_to_end.new.streams c.report_end.new.self c.flush.new.self
    (g.H.Host.outside c.args.host.now) (g.H.Host.outside c.play_to_end.new.host)
    (g.H.Host.outside c.report_end.new.host)
    (g.H.Host.outside c.flush.new.host)
    _ _ c.in-Ok.number c.requires.ready c.new-streams.ensures.pending c.new-streams.ensures.block
    c.in-Ok.ensures.ended
    c.in-Ok.ensures.files c.in_ok-report_end.ensures.looked c.in_ok-flush.ensures.looked
    c.in_ok-report_end.ensures.reported.0 c.in_ok-flush.ensures.said c.in_ok-flush.ensures.empty

pub returns-in-Err-clause-bad : goal.returns-in-Err-clause-bad
returns-in-Err-clause-bad g c =
    bad_line_both {T = Unit {0}} (Err c.in-Err.stop) _ _ _
    (λ number kind failed written.
    stopped c.new-streams.result c.play_to_end.new.streams (g.H.Host.outside c.args.host.now)
    (g.H.Host.outside c.play_to_end.new.host) _ _ number kind
    c.requires.ready c.new-streams.ensures.pending c.new-streams.ensures.block failed
    c.in-Err.ensures.files written)
    c.in-Err.ensures.bad c.in-Err.ensures.written
