use Rattle.std.proofs.Common.{◌≡◌, refl, sym, ap, ◌∙◌}
use Rattle.ata_taskfile.specs.declared.Taken.TheVariants.{Good}
use Rattle.ata_taskfile.specs.declared.Phase.TheVariants.{Busy}
use Rattle.port_lease.specs.declared.view.View.{View}
use Rattle.port_lease.specs.Sides.{view_held}
use Rattle.ata_taskfile.specs.declared.Taken.{Taken}
use Rattle.aoe_client.specs.Asking.{done_in}
use Rattle.monitor_turn.proofs.Buffers.{collected_buffers}
use Rattle.monitor_turn.proofs.Collecting.{client_before, collected_fits, collected_seen, turned_before}
use Rattle.monitor_turn.proofs.CameSources.{collected_sources}
use Rattle.monitor_turn.proofs.Requests.{collected_requests}
use Rattle.monitor_turn.proofs.redirected.redirected.Goals as goal

pub worked_on-requires-clause-fits : goal.worked_on-requires-clause-fits
worked_on-requires-clause-fits g c =
    let order = c.in-Busy-Good-default.order in
    let p = c.args.parts.now in
    let done = c.in-Busy-Good-default.done in
    let good = rw c.in-Busy-Good-default.is at c.in-Busy-Good-default.field-0-is in
    let at : (view_held c.args.side).file.phase ≡ Busy (Good order) done =
    ap (λ (v : View). v.file.phase) (sym c.view.ensures) ∙ c.in-Busy-Good-default.is
    ∙ ap (λ (order : Taken). Busy order done) good in
    rw (c.collect.ensures.after, c.from.ensures, c.from-2.ensures)
    (collected_fits c.args.side c.in-Some.redirect order done p (g.P.Ports.device c.args.ports.now) c.requires.fits at
    c.in-Some.is)

pub returns-clause-turned : goal.returns-clause-turned
returns-clause-turned g c =
    let p = c.args.parts.now in
    turned_before (done_in p.client.demand) _ _ p c.worked_on.new.parts _ _ _ _
    (rw c.collect.ensures.after at c.worked_on.ensures.turned)

pub returns-clause-client : goal.returns-clause-client
returns-clause-client g c =
    let p = c.args.parts.now in
    let w = c.worked_on.ensures in
    client_before (done_in p.client.demand) _ _ p c.worked_on.new.parts refl (rw c.collect.ensures.after at w.client)
    (rw c.collect.ensures.after at w.unasked)

pub returns-clause-shown : goal.returns-clause-shown
returns-clause-shown g c = λ q shows agree.
    let order = c.in-Busy-Good-default.order in
    let done = c.in-Busy-Good-default.done in
    let good = rw c.in-Busy-Good-default.is at c.in-Busy-Good-default.field-0-is in
    let at : (view_held c.args.side).file.phase ≡ Busy (Good order) done =
    ap (λ (v : View). v.file.phase) (sym c.view.ensures) ∙ c.in-Busy-Good-default.is
    ∙ ap (λ (order : Taken). Busy order done) good in
    let seen = collected_seen c.args.side c.in-Some.redirect order done c.args.parts.now _ _ q c.requires.fits at
    c.in-Some.is shows agree in
    let made = rw (c.collect.ensures.after, c.from.ensures, c.from-2.ensures) at c.worked_on.ensures.shown in
    made q seen.0 seen.1

pub returns-clause-buffers : goal.returns-clause-buffers
returns-clause-buffers g c =
    let order = c.in-Busy-Good-default.order in
    let done = c.in-Busy-Good-default.done in
    let good = rw c.in-Busy-Good-default.is at c.in-Busy-Good-default.field-0-is in
    let at : (view_held c.args.side).file.phase ≡ Busy (Good order) done =
    ap (λ (v : View). v.file.phase) (sym c.view.ensures) ∙ c.in-Busy-Good-default.is
    ∙ ap (λ (order : Taken). Busy order done) good in
    let r = c.requires in
    collected_buffers c.args.side c.in-Some.redirect order done _ c.args.parts.now _ _ _ r.fits at c.in-Some.is r.opened
    c.a_pool_is_whole.ensures c.a_slot_has_a_blocks_tags.ensures.demand
    (rw (c.collect.ensures.after, c.from.ensures, c.from-2.ensures) at c.worked_on.ensures.buffers)

pub returns-clause-sources : goal.returns-clause-sources
returns-clause-sources g c =
    let order = c.in-Busy-Good-default.order in
    let done = c.in-Busy-Good-default.done in
    let good = rw c.in-Busy-Good-default.is at c.in-Busy-Good-default.field-0-is in
    let at : (view_held c.args.side).file.phase ≡ Busy (Good order) done =
    ap (λ (v : View). v.file.phase) (sym c.view.ensures) ∙ c.in-Busy-Good-default.is
    ∙ ap (λ (order : Taken). Busy order done) good in
    collected_sources c.args.side c.in-Some.redirect order done _ c.args.parts.now _ _ _ _ c.requires.fits at
    c.in-Some.is c.a_slot_has_a_blocks_tags.ensures.demand
    (rw (c.collect.ensures.after, c.from.ensures, c.from-2.ensures) at c.worked_on.ensures.sources)

pub returns-clause-requests : goal.returns-clause-requests
returns-clause-requests g c =
    let order = c.in-Busy-Good-default.order in
    let done = c.in-Busy-Good-default.done in
    let good = rw c.in-Busy-Good-default.is at c.in-Busy-Good-default.field-0-is in
    let at : (view_held c.args.side).file.phase ≡ Busy (Good order) done =
    ap (λ (v : View). v.file.phase) (sym c.view.ensures) ∙ c.in-Busy-Good-default.is
    ∙ ap (λ (order : Taken). Busy order done) good in
    collected_requests c.args.side c.in-Some.redirect order done _ c.args.parts.now _ _ c.requires.fits at c.in-Some.is
    (rw (c.collect.ensures.after, c.from.ensures, c.from-2.ensures) at c.worked_on.ensures.requests)
