use Rattle.std.proofs.Common.{◌≡◌, ap, refl, ◌∙◌}
use Rattle.aoe_client.specs.Asking.{Asking, slot_filled}
use Rattle.aoe_client.proofs.Buffers.{both_hold, has_room, others_stay}
use Rattle.aoe_client.proofs.client.Client.hear.Goals as goal

pub returns-clause-kept : goal.returns-clause-kept
returns-clause-kept c source gives holds =
    let tag = c.args.tag in let sectors = c.args.sectors.now in let pool = c.args.pool.now in
    let s = c.self.inside in
    let here : Asking = record { block = s.block; demand = s.demand; background = s.background } in
    let one = c.hear_in-demand.ensures in let two = c.hear_in-background.ensures in
    let q : c.hear_in-background.new.pool
    ≡ slot_filled tag sectors s.background (slot_filled tag sectors s.demand pool) =
    two.buffer ∙ ap (slot_filled tag sectors s.background) one.buffer in
    let of_pool = rw (← c.self.view_is) at c.requires.of_pool in
    let room = rw (← c.self.view_is) at c.requires.room in
    let held = rw (← c.self.view_is) at holds in
    rw (one.after, two.after, q) (both_hold source tag sectors c.requires.sectors gives here pool
    c.a_pool_is_whole.ensures of_pool
    (has_room s.block pool.room s.demand c.self.invariant.1 room)
    (has_room s.block pool.room s.background c.self.invariant.2 room)
    held)

pub returns-clause-others : goal.returns-clause-others
returns-clause-others c lease are =
    let tag = c.args.tag in let sectors = c.args.sectors.now in let pool = c.args.pool.now in
    let s = c.self.inside in
    let here : Asking = record { block = s.block; demand = s.demand; background = s.background } in
    let q : c.hear_in-background.new.pool
    ≡ slot_filled tag sectors s.background (slot_filled tag sectors s.demand pool) =
    c.hear_in-background.ensures.buffer ∙ ap (slot_filled tag sectors s.background) c.hear_in-demand.ensures.buffer in
    let of_pool = rw (← c.self.view_is) at c.requires.of_pool in
    let room = rw (← c.self.view_is) at c.requires.room in
    let all = rw (← c.self.view_is) at are in
    rw q (others_stay (λ _. sectors) tag sectors c.requires.sectors refl here pool c.a_pool_is_whole.ensures of_pool
    (has_room s.block pool.room s.demand c.self.invariant.1 room)
    (has_room s.block pool.room s.background c.self.invariant.2 room)
    lease all)
