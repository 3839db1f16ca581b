use Rattle.std.proofs.Common.{None, Some, sym, ◌∙◌}
use Rattle.run_words.specs.Options.{seen}
use Rattle.bmcast.proofs.Finding.{empty_found, header_found}
use Rattle.bmcast.proofs.survey.check_header.Goals as goal

pub returns-then-area-eq0-clause-can : goal.returns-then-area-eq0-clause-can
returns-then-area-eq0-clause-can g c = empty_found (seen c.args.options.now) c.args.area.now
    (g.H.Host.outside c.args.host.now) c.requires c.if-area-eq0.true

pub returns-in-None-clause-can : goal.returns-in-None-clause-can
returns-in-None-clause-can g c = header_found (seen c.args.options.now) c.args.area.now
    (g.H.Host.outside c.args.host.now) c.requires c.in-Ok.begun None c.if-area-eq0.false c.in-Ok.ensures.header
    (sym c.in-None.is ∙ c.refusal_by.ensures)

pub returns-in-Some-clause-stops : goal.returns-in-Some-clause-stops
returns-in-Some-clause-stops g c = header_found (seen c.args.options.now) c.args.area.now
    (g.H.Host.outside c.args.host.now) c.requires c.in-Ok.begun (Some c.in-Some.why) c.if-area-eq0.false
    c.in-Ok.ensures.header (sym c.in-Some.is ∙ c.refusal_by.ensures)
