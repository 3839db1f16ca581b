use Rattle.std.proofs.Common.{refl}
use Rattle.port_lease.specs.Sides.{view_held}
use Rattle.streaming.specs.Monitor.{item_of}
use Rattle.monitor_turn.proofs.Buffers.{redirect_buffers}
use Rattle.monitor_turn.proofs.Fresh.{goes_on_over, may_redirect, redirect_fits, turned_over}
use Rattle.monitor_turn.proofs.Sources.{redirect_sources}
use Rattle.monitor_turn.proofs.Requests.{begun_requests}
use Rattle.monitor_turn.proofs.commands.first_redirected.Goals as goal

pub new-requires : goal.new-requires
new-requires g c =
    let p = c.args.parts.now in
    let r = c.requires in record {
      read = (may_redirect (view_held c.args.side) c.args.request p.area p.bitmap p.area.sectors r.fits.parts.state.1
          r.phase r.class).0;
    }

pub redirected-requires-clause-fits : goal.redirected-requires-clause-fits
redirected-requires-clause-fits g c =
    let r = c.requires in
    redirect_fits c.args.side c.args.request c.new.result c.args.parts.now _ r.fits r.phase r.fresh r.class
    c.new.ensures.request

pub returns-clause-turned : goal.returns-clause-turned
returns-clause-turned g c = turned_over c.new.result c.args.parts.now _ _ _ _ _ c.redirected.ensures.turned

pub returns-clause-shown : goal.returns-clause-shown
returns-clause-shown g c =
    goes_on_over c.new.result c.args.side c.args.parts.now _ _ _ _ _ (item_of c.redirected.result.1) _
    c.redirected.ensures.shown

pub returns-clause-buffers : goal.returns-clause-buffers
returns-clause-buffers g c =
    redirect_buffers c.new.result c.args.side _ c.args.parts.now _ _ _ c.requires.opened c.redirected.ensures.buffers

pub returns-clause-sources : goal.returns-clause-sources
returns-clause-sources g c =
    redirect_sources c.new.result c.args.side _ c.args.parts.now _ _ _ _ c.redirected.ensures.sources

pub returns-clause-requests : goal.returns-clause-requests
returns-clause-requests g c =
    begun_requests c.args.side _ c.args.parts.now _ _ _ c.requires.phase c.requires.fresh refl
    c.redirected.ensures.requests
