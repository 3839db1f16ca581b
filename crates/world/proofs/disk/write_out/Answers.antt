use Rattle.std.proofs.Common.{arith, ◌≤◌, ◌<◌, length}
use Rattle.world.specs.Machine.{physical}
use Rattle.world.proofs.DiskLaws.{WritesFront-more, WritesFront-done}
use Rattle.world.proofs.disk.write_out.Goals as goal

pub loop-sector-preserved : goal.loop-sector-preserved
loop-sector-preserved g c =
    let below : c.loop-sector.sector < length (physical c.args.machine.now).kept.durable = omega arith in
    WritesFront-more (g.H.Host.outside c.args.host.now) (g.H.Host.outside c.loop-sector.host)
    (g.H.Host.outside c.write_sector.new.host)
    (physical c.args.machine.now) (physical c.loop-sector.machine) (physical c.write_sector.new.machine)
    _ _ c.loop-sector.sector below
    c.loop-sector.invariant c.in_ok-write_sector.ensures.cause c.in_ok-write_sector.ensures.files
    c.in_ok-write_sector.ensures.looked
    c.in_ok-write_sector.ensures.machine c.in_ok-write_sector.ensures.waits

pub returns-clause-out : goal.returns-clause-out
returns-clause-out g c =
    let all : length (physical c.args.machine.now).kept.durable ≤ c.loop-sector.sector = omega arith in
    WritesFront-done (g.H.Host.outside c.args.host.now) (g.H.Host.outside c.loop-sector.host)
    (g.H.Host.outside c.write_waiting.new.host) (physical c.args.machine.now) _ _ _ c.loop-sector.sector all
    c.loop-sector.invariant c.write_waiting.result c.write_waiting.ensures.empty c.write_waiting.ensures.waits
