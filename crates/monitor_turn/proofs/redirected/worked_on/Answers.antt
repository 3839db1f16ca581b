use Rattle.std.proofs.Common.{None, sym, subst}
use Rattle.monitor_state.specs.declared.parts.Parts.{Parts}
use Rattle.monitor_state.specs.declared.state.State.TheVariants.{Monitor}
use Rattle.monitor_state.specs.Leases.{AreLeased, leases_of_parts}
use Rattle.monitor_turn.specs.Turned.{HasTurned}
use Rattle.monitor_turn.proofs.Asked.{asked_turned}
use Rattle.monitor_state.specs.Requests.{KeepsRequests}
use Rattle.monitor_turn.proofs.Requests.{asked_requests}
use Rattle.monitor_turn.proofs.redirected.worked_on.Goals as goal

pub returns-in-Ask-clause-turned : goal.returns-in-Ask-clause-turned
returns-in-Ask-clause-turned g c =
    let a = c.ask.ensures in
    let q = c.ask.new.parts in
    let p = c.args.parts.now in
    let d = g.P.Ports.device c.args.ports.now in
    let next = rw (c.view.ensures, c.held_range-held.ensures) at c.in-Ask.ensures.next in
    let asks = rw (c.view.ensures, c.held_range-held.ensures) at c.in-Ask.ensures.tells in
    let r = c.requires in
    let waiting = c.is_some-waiting.result in
    let made = asked_turned c.args.side c.args.redirect c.args.done c.in-Ask.b waiting q.pool q.client p d r.fits
    r.worked_on next asks a.client a.block a.pool_room a.buffers
    (λ are. subst (λ (q : Parts). AreLeased (leases_of_parts q) q) a.others (a.leased are)) in
    subst (λ (q : Parts). HasTurned p d (Monitor c.args.side) None q d) (sym a.others) made

pub returns-in-Read-clause-shown : goal.returns-in-Read-clause-shown
returns-in-Read-clause-shown g c = c.read.ensures.shown c.args.memory.now

pub returns-in-Serve-clause-shown : goal.returns-in-Serve-clause-shown
returns-in-Serve-clause-shown g c = c.offered.ensures.shown c.args.memory.now

pub returns-in-Raise-clause-shown : goal.returns-in-Raise-clause-shown
returns-in-Raise-clause-shown g c = c.raise.ensures.shown c.args.memory.now

pub returns-in-End-clause-shown : goal.returns-in-End-clause-shown
returns-in-End-clause-shown g c = c.raise-in-End.ensures.shown c.args.memory.now

pub returns-in-Ask-clause-buffers : goal.returns-in-Ask-clause-buffers
returns-in-Ask-clause-buffers g c = c.ask.ensures.kept c.args.side (g.P.Ports.device c.args.ports.now)

pub returns-in-Ask-clause-sources : goal.returns-in-Ask-clause-sources
returns-in-Ask-clause-sources g c = c.ask.ensures.sources c.args.side (g.P.Ports.device c.args.ports.now)

pub returns-in-Ask-clause-requests : goal.returns-in-Ask-clause-requests
returns-in-Ask-clause-requests g c =
    let a = c.ask.ensures in
    let q = c.ask.new.parts in
    let p = c.args.parts.now in
    let asks = rw (c.view.ensures, c.held_range-held.ensures) at c.in-Ask.ensures.tells in
    subst (λ (q : Parts). KeepsRequests (Monitor c.args.side) p (Monitor c.args.side) q) (sym a.others)
    (asked_requests c.args.side c.args.redirect c.args.done c.in-Ask.b c.is_some-waiting.result q.pool q.client p
    (g.P.Ports.device c.args.ports.now) c.requires.fits c.requires.worked_on asks a.client a.block)
