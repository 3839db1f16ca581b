use Rattle.std.proofs.Common.{refl, sym, ◌∙◌}
use Rattle.std.specs.Prelude.{Err}
use Rattle.bmcast.specs.declared.play.Progress.{Progress}
use Rattle.bmcast.proofs.StopLaws.{bad_line_weaker}
use Rattle.bmcast.proofs.Lines.{line_fails}
use Rattle.bmcast.proofs.PlayedLaws.{line_done, taken_failed, unknown_taken}
use Rattle.bmcast.proofs.play.do_line.Goals as goal

pub returns-in-Err-clause-bad : goal.returns-in-Err-clause-bad
returns-in-Err-clause-bad g c = λ start.
    let fault = rw c.as_slice.ensures.value at c.in-Err.ensures.reads in
    taken_failed start c.args.streams.now (g.H.Host.outside c.args.host.now) _ c.args.line.now.items
    c.args.number c.args.number c.in-Err.fault
    c.requires.number refl (line_fails c.args.line.now.items c.in-Err.fault c.args.number fault)

pub returns-in-Err-progress_after-clause-bad : goal.returns-in-Err-progress_after-clause-bad
returns-in-Err-progress_after-clause-bad g c =
    let says = rw c.as_slice.ensures.value at c.in-Ok.ensures.reads in
    bad_line_weaker {T = Progress} (Err c.in-Err-progress_after.stop) _ _
    (λ bad kind fails start.
    taken_failed start c.args.streams.now (g.H.Host.outside c.args.host.now) _ c.args.line.now.items
    c.args.number bad kind c.requires.number fails.0 fails.1)
    (c.in-Err-progress_after.ensures.bad c.args.line.now.items says)

pub returns-clause-done : goal.returns-clause-done
returns-clause-done g c = λ start was.
    let says = rw c.as_slice.ensures.value at c.in-Ok.ensures.reads in
    line_done start c.args.streams.now c.do_event.new.streams (g.H.Host.outside c.args.host.now)
    (g.H.Host.outside c.do_event.new.host)
    _ _ c.args.line.now.items c.args.number c.args.image _ _ _ says c.requires.over.image
    (sym c.knows.ensures ∙ c.if-not-knows.false)
    c.in_ok-do_event.ensures.files c.in_ok-do_event.ensures.event c.in_ok-do_event.ensures.kept
    c.in_ok-do_event.ensures.reported was
    c.in-Ok-progress_after.progress c.requires.number c.in-Ok-progress_after.ensures.leads

pub returns-then-not-knows-clause-bad : goal.returns-then-not-knows-clause-bad
returns-then-not-knows-clause-bad g c = λ start.
    let says = rw c.as_slice.ensures.value at c.in-Ok.ensures.reads in
    unknown_taken start c.args.streams.now (g.H.Host.outside c.args.host.now) _ c.args.line.now.items c.args.number
    c.args.image _ c.in-Ok-progress_after.progress c.requires.number says c.in-Ok-progress_after.ensures.leads
    c.requires.over.image (sym c.knows.ensures ∙ c.if-not-knows.true)
