use Rattle.monitor_state.proofs.Standing.{opened_free}
use Rattle.monitor_turn.proofs.Raised.{raised}
use Rattle.monitor_turn.proofs.Sources.{raised_sources}
use Rattle.monitor_turn.proofs.commands.raise.Goals as goal

pub raise-dummy-requires-clause-free : goal.raise-dummy-requires-clause-free
raise-dummy-requires-clause-free g c =
    let r = c.requires in opened_free c.args.side c.args.parts.now _ r.fits.device r.opened r.calm

pub returns-clause-turned : goal.returns-clause-turned
returns-clause-turned g c =
    let r = c.raise-dummy.ensures in
    raised c.args.side _ _ c.args.plan c.args.parts.now _ _ c.requires.fits c.requires.opened c.requires.calm
    c.requires.planned r.own r.view r.sector r.uncancelled r.flies r.taken r.byte r.nien r.unseen.sectors

pub returns-clause-sources : goal.returns-clause-sources
returns-clause-sources g c = raised_sources c.args.side _ _ c.args.plan _ c.args.parts.now _ _
