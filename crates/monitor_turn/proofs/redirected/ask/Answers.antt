use Rattle.mon_pool.specs.Region.{first_free}
use Rattle.aoe_client.specs.Asking.{tags_in}
use Rattle.monitor_turn.proofs.Buffers.{asked_buffers}
use Rattle.monitor_turn.proofs.CameSources.{asked_sources}
use Rattle.monitor_turn.proofs.redirected.ask.Goals as goal

pub returns-clause-kept : goal.returns-clause-kept
returns-clause-kept c =
    let p = c.args.parts.now in
    rw (c.in-Ok.ensures.asked, c.take_lease-lease.ensures.after) (λ side d.
    asked_buffers (first_free p.pool) (tags_in p.client.block) c.args.block c.take_lease-lease.result side p d)

pub returns-clause-sources : goal.returns-clause-sources
returns-clause-sources c =
    let p = c.args.parts.now in
    rw (c.in-Ok.ensures.asked, c.take_lease-lease.ensures.after) (λ side d.
    asked_sources (first_free p.pool) (tags_in p.client.block) c.args.block c.take_lease-lease.result side p d)
