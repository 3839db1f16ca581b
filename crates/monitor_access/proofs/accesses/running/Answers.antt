use Rattle.std.proofs.Common.{refl, sym, ◌∙◌, subst}
use Rattle.plain_drive.specs.Alike.{after_access}
use Rattle.port_lease.specs.Sides.{view_held}
use Rattle.monitor_state.specs.declared.parts.Parts.{Parts}
use Rattle.monitor_state.specs.Seen.{Shows}
use Rattle.monitor_access.proofs.Buffers.{running_holds}
use Rattle.monitor_access.proofs.Opening.{running_goes_on, running_stays}
use Rattle.monitor_access.proofs.Viewed.{viewed_shown}
use Rattle.monitor_state.specs.declared.state.State.TheVariants.{Running}
use Rattle.monitor_access.proofs.Requests.{viewed_requests}
use Rattle.monitor_access.proofs.Sources.{running_keeps}
use Rattle.monitor_access.proofs.accesses.running.Goals as goal

pub returns-clause-shown : goal.returns-clause-shown
returns-clause-shown g c = λ memory q shows none.
    let call = c.by_view-answer in
    let a = c.args.access.now in
    let p = c.args.parts.now in
    let d = g.P.Ports.device c.args.ports.now in
    let e = g.P.Ports.device call.new.ports in
    let before = Running c.args.side c.args.own c.args.purpose in
    let behind = Running call.new.side c.args.own c.args.purpose in
    let fits = c.accesses_keep_the_fit.ensures.running a c.args.side call.new.side c.args.own c.args.purpose p d
    c.requires.no_reset call.ensures.accessed c.requires.fits in
    subst (λ (r : Parts). Shows behind r e memory (after_access a q)) (sym call.ensures.parts)
    (viewed_shown a before behind (view_held c.args.side) (view_held call.new.side) p d e
    (record { file = refl; bus = refl; block = refl; refused = refl })
    (record { file = refl; bus = refl; block = refl; refused = refl })
    call.ensures.accessed.view call.ensures.seen fits.parts.state.2 memory q shows (sym call.ensures.mark ∙ none))

pub returns-clause-opening : goal.returns-clause-opening
returns-clause-opening g c =
    let call = c.by_view-answer in
    running_goes_on c.args.access.now (view_held call.new.side).file.phase c.args.side call.new.side c.args.parts.now
    call.new.parts (g.P.Ports.device c.args.ports.now) (g.P.Ports.device call.new.ports) call.ensures.parts
    call.ensures.drive c.args.own c.args.purpose

pub returns-clause-stays : goal.returns-clause-stays
returns-clause-stays g c =
    let call = c.by_view-answer in
    running_stays c.args.access.now (view_held call.new.side).file.phase c.args.side call.new.side c.args.parts.now
    call.new.parts (g.P.Ports.device c.args.ports.now) (g.P.Ports.device call.new.ports) call.ensures.parts
    call.ensures.drive c.args.own c.args.purpose

pub returns-clause-buffers : goal.returns-clause-buffers
returns-clause-buffers g c =
    let call = c.by_view-answer in
    running_holds c.args.access.now (view_held call.new.side).file.phase c.args.side call.new.side c.args.own
    c.args.purpose c.args.parts.now call.new.parts (g.P.Ports.device c.args.ports.now)
    (g.P.Ports.device call.new.ports) call.ensures.parts call.ensures.drive

pub returns-clause-sources : goal.returns-clause-sources
returns-clause-sources g c =
    let call = c.by_view-answer in
    running_keeps c.args.access.now (view_held call.new.side).file.phase c.args.side call.new.side c.args.own
    c.args.purpose c.args.parts.now call.new.parts (g.P.Ports.device c.args.ports.now)
    (g.P.Ports.device call.new.ports) c.requires.fits.parts.state.2 c.requires.fits.parts.state.5 call.ensures.parts

pub returns-clause-requests : goal.returns-clause-requests
returns-clause-requests g c =
    let call = c.by_view-answer in
    let state = c.requires.fits.parts.state in
    viewed_requests c.args.access.now c.args.side call.new.side c.args.parts.now call.new.parts state.1
    c.requires.no_reset state.2 call.ensures.accessed call.ensures.parts
