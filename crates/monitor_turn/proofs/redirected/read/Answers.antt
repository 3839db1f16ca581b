use Rattle.std.proofs.Common.{[], ◌∷◌, subst}
use Rattle.mon_pool.specs.Region.{HasWholeBuffers, first_free, leased}
use Rattle.monitor_state.specs.declared.parts.Parts.{Parts}
use Rattle.monitor_state.specs.Leases.{AreLeased, leases_of_parts}
use Rattle.monitor_turn.proofs.PieceBuffer.{begun_buffers}
use Rattle.monitor_turn.proofs.Read.{leased_buffers, leased_room, piece_begun, read_goes}
use Rattle.monitor_turn.proofs.Sources.{begun_sources}
use Rattle.monitor_turn.proofs.redirected.read.Goals as goal

pub returns-clause-turned : goal.returns-clause-turned
returns-clause-turned g c =
    let b = c.begin-own.ensures in
    let r = c.requires in
    let p = c.args.parts.now in
    let t = c.take_lease-lease.ensures in
    let lease = c.take_lease-lease.result in
    let free = first_free p.pool in
    let e = g.P.Ports.device c.begin-own.new.ports in
    rw t.after
    (piece_begun c.args.side _ _ lease c.args.first c.args.count _ (leased free p.pool) c.args.redirect p _ e r.fits
    r.opened r.worked_on r.readable (leased_room free p.pool) (leased_buffers free p.pool)
    (λ are. subst (λ (q : Parts). AreLeased (lease ∷ leases_of_parts p) q) t.after
    (t.leased [] (leases_of_parts p) are))
    b.own b.view b.job b.left b.runs b.taken b.byte b.unseen.sectors c.job_item.ensures.item)

pub returns-clause-shown : goal.returns-clause-shown
returns-clause-shown g c = λ bytes.
    let b = c.begin-own.ensures in
    let r = c.requires in
    let p = c.args.parts.now in
    rw c.take_lease-lease.ensures.after
    (read_goes c.args.side _ _ _ c.args.first c.args.count _ (leased (first_free p.pool) p.pool) c.args.redirect p _ _
    bytes r.fits r.worked_on r.readable b.view b.unseen.bus c.job_item.ensures.item)

pub returns-clause-buffers : goal.returns-clause-buffers
returns-clause-buffers g c =
    let b = c.begin-own.ensures in
    let r = c.requires in
    let p = c.args.parts.now in
    let t = c.take_lease-lease.ensures in
    let lease = c.take_lease-lease.result in
    let free = first_free p.pool in
    rw t.after
    (begun_buffers c.args.side _ _ lease c.args.first c.args.count (leased free p.pool) c.args.redirect p _ _ r.fits
    r.opened r.worked_on r.readable (leased_room free p.pool)
    (subst (λ (q : Parts). HasWholeBuffers q.pool) t.after c.a_pool_is_whole.ensures)
    (λ are. subst (λ (q : Parts). AreLeased (lease ∷ leases_of_parts p) q) t.after
    (t.leased [] (leases_of_parts p) are))
    b.job b.left b.kept)

pub returns-clause-sources : goal.returns-clause-sources
returns-clause-sources g c =
    let r = c.requires in
    let p = c.args.parts.now in
    rw c.take_lease-lease.ensures.after
    (begun_sources c.args.side _ _ c.take_lease-lease.result c.args.first c.args.count
    (leased (first_free p.pool) p.pool) c.args.redirect _ p _ _ r.fits r.worked_on r.readable c.job_item.ensures.item)
