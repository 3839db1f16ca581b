use Rattle.std.proofs.Common.{◌∷◌, ◌&&◌, Bool, refl, sym, ap, ◌∙◌}
use Rattle.mon_pool.proofs.Leases.{are_of_written}
use Rattle.port_lease.specs.Sides.{has_own}
use Rattle.monitor_state.specs.declared.state.State.TheVariants.{Monitor, Running}
use Rattle.monitor_state.specs.declared.state.Purpose.TheVariants as purpose
use Rattle.monitor_state.specs.Leases.{leases_of_parts}
use Rattle.monitor_turn.proofs.Piece.{piece_done, piece_failed, piece_goes}
use Rattle.monitor_turn.proofs.Polls.{goes, taken_before}
use Rattle.monitor_turn.proofs.PieceBuffer.{done_buffers, failed_buffers, goes_buffers}
use Rattle.monitor_turn.proofs.Sources.{done_sources, untold_over}
use Rattle.monitor_turn.proofs.own.polled_piece.Goals as goal

pub returns-in-Waiting-clause-turned : goal.returns-in-Waiting-clause-turned
returns-in-Waiting-clause-turned g c =
    let r = c.poll.ensures in
    let fits = c.requires.fits in
    let state = fits.parts.state in
    let p = c.args.parts.now in
    let lease = c.args.lease in
    let on = goes c.poll.result c.in-Waiting.is in
    let runs = r.runs on in
    let own = c.args.own in
    let left = c.poll.new.self in
    let d = g.P.Ports.device c.args.ports.now in
    let e = g.P.Ports.device c.poll.new.ports in
    rw c.bytes_mut-buffer.ensures.lease
    (piece_goes c.args.side c.poll.new.side own left c.args.first c.args.count lease _ p d e fits refl refl
    (λ leased. record {
      held = are_of_written (lease ∷ leases_of_parts p) p.pool lease _ leased.held;
      counted = leased.counted;
    })
    (r.own ∙ ap (λ (b : Bool). b && has_own c.args.side) on ∙ state.0) r.view r.job (r.goes on) runs r.unseen.sectors
    (taken_before c.poll.result own left d e on state.4 r.answer r.job r.left fits.device runs))

pub returns-in-Done-clause-turned : goal.returns-in-Done-clause-turned
returns-in-Done-clause-turned g c =
    let r = c.in-Done.ensures in
    let p = c.args.parts.now in
    let lease = c.args.lease in
    let d = g.P.Ports.device c.args.ports.now in
    let e = g.P.Ports.device c.poll.new.ports in
    rw (c.hold.ensures.after, c.bytes_mut-buffer.ensures.lease)
    (piece_done c.args.side c.poll.new.side c.args.own c.args.first c.args.count lease _ p d e c.requires.fits refl refl
    (λ leased. record {
      held = are_of_written (lease ∷ leases_of_parts p) p.pool lease _ leased.held;
      counted = leased.counted;
    })
    r.own r.view (r.free refl) r.unseen.sectors)

pub returns-in-Failed-clause-turned : goal.returns-in-Failed-clause-turned
returns-in-Failed-clause-turned g c =
    let r = c.in-Failed.ensures in
    let p = c.args.parts.now in
    let lease = c.args.lease in
    let d = g.P.Ports.device c.args.ports.now in
    let e = g.P.Ports.device c.poll.new.ports in
    rw (c.give.ensures, c.bytes_mut-buffer.ensures.lease)
    (piece_failed c.args.side c.poll.new.side c.args.own c.args.first c.args.count lease _ p d e c.requires.fits refl
    refl
    (λ leased. record {
      held = are_of_written (lease ∷ leases_of_parts p) p.pool lease _ leased.held;
      counted = leased.counted;
    })
    r.own r.view (r.free refl) r.unseen.sectors)

pub returns-in-Waiting-clause-buffers : goal.returns-in-Waiting-clause-buffers
returns-in-Waiting-clause-buffers g c =
    let r = c.poll.ensures in
    let p = c.args.parts.now in
    let lease = c.args.lease in
    let count = c.args.count in
    let parts = c.split_at_mut-bytes.ensures in
    rw c.bytes_mut-buffer.ensures.lease
    (goes_buffers c.args.side c.poll.new.side c.args.own c.args.first count lease p
    (g.P.Ports.device c.args.ports.now) (g.P.Ports.device c.poll.new.ports) c.split_at_mut-bytes.result.0.now
    c.split_at_mut-bytes.result.1.now c.poll.new.bytes c.poll.result c.requires.fits c.a_pool_is_whole.ensures
    (sym c.bytes_mut-buffer.ensures.value ∙ parts.value) parts.front_len c.poll.auto.bytes r.unseen.cells r.kept
    c.poll.new.self r.job r.left c.in-Waiting.is)

pub returns-in-Done-clause-buffers : goal.returns-in-Done-clause-buffers
returns-in-Done-clause-buffers g c =
    let r = c.poll.ensures in
    let p = c.args.parts.now in
    let lease = c.args.lease in
    let count = c.args.count in
    let parts = c.split_at_mut-bytes.ensures in
    rw (c.hold.ensures.after, c.bytes_mut-buffer.ensures.lease)
    (done_buffers c.args.side c.poll.new.side c.args.own c.args.first count lease p
    (g.P.Ports.device c.args.ports.now) (g.P.Ports.device c.poll.new.ports) c.split_at_mut-bytes.result.0.now
    c.split_at_mut-bytes.result.1.now c.poll.new.bytes c.poll.result c.requires.fits c.a_pool_is_whole.ensures
    (sym c.bytes_mut-buffer.ensures.value ∙ parts.value) parts.front_len c.poll.auto.bytes r.unseen.cells r.kept
    c.in-Done.is (g.met.P.Ports.whole c.poll.new.ports))

pub returns-in-Failed-clause-buffers : goal.returns-in-Failed-clause-buffers
returns-in-Failed-clause-buffers g c = λ k h sectors has.
    failed_buffers k.image c.args.side c.poll.new.side c.args.own c.args.first c.args.count c.args.lease
    c.args.parts.now _ (g.P.Ports.device c.args.ports.now) (g.P.Ports.device c.poll.new.ports) h c.requires.fits
    refl refl has

pub returns-in-Waiting-clause-sources : goal.returns-in-Waiting-clause-sources
returns-in-Waiting-clause-sources g c =
    let p = c.args.parts.now in
    untold_over (Running c.args.side c.args.own (purpose.Piece c.args.first c.args.count c.args.lease))
    (Running c.poll.new.side c.poll.new.self (purpose.Piece c.args.first c.args.count _)) p _ _ _ refl refl refl
    (λ lines read. read)

pub returns-in-Done-clause-sources : goal.returns-in-Done-clause-sources
returns-in-Done-clause-sources g c =
    rw c.hold.ensures.after
    (done_sources c.args.side c.poll.new.side c.args.own c.args.first c.args.count c.args.lease _ _ c.args.parts.now _
    _)

pub returns-in-Failed-clause-sources : goal.returns-in-Failed-clause-sources
returns-in-Failed-clause-sources g c =
    untold_over (Running c.args.side c.args.own (purpose.Piece c.args.first c.args.count c.args.lease))
    (Monitor c.poll.new.side) c.args.parts.now _ _ _ refl refl refl (λ lines read. tt)
