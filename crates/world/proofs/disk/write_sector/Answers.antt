use Rattle.std.proofs.Common.{◌≡◌, ◌++◌, [], slice_index_or, subst, sym}
use Rattle.std.proofs.lemmas.Option.{get_or_from_slice_get}
use Rattle.bm_host.specs.declared.Role.TheVariants.{Out}
use Rattle.world.specs.Machine.{physical}
use Rattle.block_writes.specs.Waiting.{Waits}
use Rattle.block_writes.proofs.WaitingLaws.{Waits-more}
use Rattle.world.proofs.disk.write_sector.Goals as goal

pub returns-in_err-make_room-clause-machine : goal.returns-in_err-make_room-clause-machine
returns-in_err-make_room-clause-machine g c = c.durable.ensures.unmoved c.args.machine.now.memory

pub returns-clause-machine : goal.returns-clause-machine
returns-clause-machine g c = c.durable.ensures.unmoved c.args.machine.now.memory

pub returns-clause-waits : goal.returns-clause-waits
returns-clause-waits g c = λ text was.
    let list = (physical c.args.machine.now).kept.durable in
    let value = rw c.unwrap.ensures at c.durable.ensures.value in
    let read : slice_index_or list c.args.sector [] ≡ c.durable.new.into =
    get_or_from_slice_get list c.args.sector c.durable.new.into [] value in
    let added = rw c.unwrap-2.ensures at c.try_extend_from_slice.ensures.ok in
    let o = g.H.Host.outside c.make_room.new.host in
    subst (λ waiting. Waits Out waiting o (text ++ slice_index_or list c.args.sector [])) (sym added)
    (subst (λ bytes. Waits Out (c.make_room.new.waiting.items ++ c.durable.new.into) o (text ++ bytes)) (sym read)
    (Waits-more Out o c.make_room.new.waiting.items text c.durable.new.into (c.in_ok-make_room.ensures.waits text was)))
