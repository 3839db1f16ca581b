use Rattle.std.proofs.Common.{◌&&◌, ◌≤◌, Bool, drop, refl, sym, ap, ◌∙◌, subst}
use Rattle.std.proofs.lemmas.List.{length-take-le}
use Rattle.own_pio.specs.Own.{job_of}
use Rattle.port_lease.specs.Sides.{has_own}
use Rattle.monitor_state.specs.declared.parts.Parts.{Parts}
use Rattle.monitor_state.specs.declared.state.State.TheVariants.{Monitor, Running}
use Rattle.monitor_state.specs.declared.state.Purpose.TheVariants as purpose
use Rattle.monitor_state.specs.Fits.{FitsArea}
use Rattle.monitor_turn.specs.Turned.{HasTurned}
use Rattle.monitor_turn.proofs.OpeningEnds.{done_sectors, failed_sectors, goes_sectors}
use Rattle.monitor_turn.proofs.OpeningPolled.{opening_goes, opening_polled}
use Rattle.monitor_turn.proofs.Polls.{goes, taken_before}
use Rattle.monitor_turn.proofs.Sources.{opening_ends_sources, untold_over}
use Rattle.monitor_turn.proofs.own.polled_opening.Goals as goal

pub returns-in-Waiting-clause-turned : goal.returns-in-Waiting-clause-turned
returns-in-Waiting-clause-turned g c =
    let r = c.poll.ensures in
    let fits = c.requires.fits in
    let state = fits.parts.state in
    let on = goes c.poll.result c.in-Waiting.is in
    let runs = r.runs on in
    let own = c.args.own in
    let left = c.poll.new.self in
    let d = g.P.Ports.device c.args.ports.now in
    let e = g.P.Ports.device c.poll.new.ports in
    opening_goes c.args.side c.poll.new.side own left _ c.args.parts.now d e fits
    (r.own ∙ ap (λ (b : Bool). b && has_own c.args.side) on ∙ state.0) r.view r.job (r.goes on) runs r.unseen.sectors
    (taken_before c.poll.result own left d e on state.4 r.answer r.job r.left fits.device runs)

pub returns-in-Failed-clause-turned : goal.returns-in-Failed-clause-turned
returns-in-Failed-clause-turned g c =
    let r = c.in-Failed.ensures in
    let t = c.opening_told-in-Failed in
    let q = t.new.parts in
    let p = c.args.parts.now in
    let d = g.P.Ports.device c.args.ports.now in
    let e = g.P.Ports.device c.poll.new.ports in
    let made = opening_polled c.args.side c.poll.new.side c.args.own q.opening q.bitmap q.sector t.result p d e
    c.requires.fits (subst FitsArea t.ensures.others t.ensures.area) r.own r.view (r.free refl) r.unseen.sectors
    t.ensures.told in
    subst (λ (q : Parts). HasTurned p d (Monitor c.poll.new.side) t.result q e) (sym t.ensures.others) made

pub returns-in-Waiting-clause-opening : goal.returns-in-Waiting-clause-opening
returns-in-Waiting-clause-opening g c =
    let r = c.poll.ensures in
    let p = c.args.parts.now in
    let own = c.args.own in
    let end = c.opening_bytes-end.result in
    let told = c.opening_bytes-end.ensures in
    let end_is = told.bytes (job_of own) c.requires.fits.parts.state.5.0 in
    let long = c.poll.auto.bytes
    ∙ length-take-le end p.sector (subst (λ n. end ≤ n) (sym c.sector_is_whole.ensures.size) told.most) ∙ end_is in
    goes_sectors c.args.side c.poll.new.side own p (g.P.Ports.device c.args.ports.now)
    (g.P.Ports.device c.poll.new.ports) end c.poll.new.bytes (drop end p.sector) c.poll.result c.requires.fits
    told.kept end_is long r.bytes r.kept
    c.poll.new.self r.job r.left c.in-Waiting.is

pub returns-in-Done-clause-opening : goal.returns-in-Done-clause-opening
returns-in-Done-clause-opening g c =
    let r = c.poll.ensures in
    let p = c.args.parts.now in
    let own = c.args.own in
    let end = c.opening_bytes-end.result in
    let told = c.opening_bytes-end.ensures in
    let end_is = told.bytes (job_of own) c.requires.fits.parts.state.5.0 in
    let long = c.poll.auto.bytes
    ∙ length-take-le end p.sector (subst (λ n. end ≤ n) (sym c.sector_is_whole.ensures.size) told.most) ∙ end_is in
    let t = c.opening_told in
    let q = t.new.parts in
    done_sectors c.args.side c.poll.new.side own p (g.P.Ports.device c.args.ports.now)
    (g.P.Ports.device c.poll.new.ports) end c.poll.new.bytes (drop end p.sector) c.poll.result c.requires.fits
    told.kept end_is long r.bytes r.kept
    q c.in-Done.is c.sector_is_whole-in-Done.ensures (g.met.P.Ports.whole c.poll.new.ports)
    (ap (λ (x : Parts). x.area) t.ensures.others) (ap (λ (x : Parts). x.id) t.ensures.others) t.ensures.area
    t.ensures.opens t.ensures.buffer

pub returns-in-Failed-clause-opening : goal.returns-in-Failed-clause-opening
returns-in-Failed-clause-opening g c =
    let t = c.opening_told-in-Failed in
    failed_sectors c.args.side c.poll.new.side c.args.own c.args.parts.now t.new.parts
    (g.P.Ports.device c.args.ports.now) (g.P.Ports.device c.poll.new.ports) _ c.requires.fits
    c.in-Failed.ensures.unseen.cells (ap (λ (x : Parts). x.area) t.ensures.others)
    (ap (λ (x : Parts). x.id) t.ensures.others) t.ensures.area t.ensures.opens t.ensures.buffer

pub returns-in-Waiting-clause-sources : goal.returns-in-Waiting-clause-sources
returns-in-Waiting-clause-sources g c =
    untold_over (Running c.args.side c.args.own purpose.Opening)
    (Running c.poll.new.side c.poll.new.self purpose.Opening) c.args.parts.now _ _ _ refl refl refl (λ lines read. tt)

pub returns-in-Done-clause-sources : goal.returns-in-Done-clause-sources
returns-in-Done-clause-sources g c =
    let t = c.opening_told.ensures in
    opening_ends_sources c.args.side c.poll.new.side c.args.own c.opening_told.result c.args.parts.now
    c.opening_told.new.parts _ _ (ap (λ (x : Parts). x.area) t.others) (ap (λ (x : Parts). x.held) t.others)
    (ap (λ (x : Parts). x.client) t.others) t.told

pub returns-in-Failed-clause-sources : goal.returns-in-Failed-clause-sources
returns-in-Failed-clause-sources g c =
    let t = c.opening_told-in-Failed.ensures in
    opening_ends_sources c.args.side c.poll.new.side c.args.own c.opening_told-in-Failed.result c.args.parts.now
    c.opening_told-in-Failed.new.parts _ _ (ap (λ (x : Parts). x.area) t.others) (ap (λ (x : Parts). x.held) t.others)
    (ap (λ (x : Parts). x.client) t.others) t.told
