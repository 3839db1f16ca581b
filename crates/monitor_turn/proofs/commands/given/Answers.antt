use Rattle.std.proofs.Common.{ap}
use Rattle.ata_taskfile.specs.Device.{Device}
use Rattle.monitor_turn.proofs.Sources.{given_sources}
use Rattle.monitor_turn.proofs.commands.given.Goals as goal

pub returns-clause-sources : goal.returns-clause-sources
returns-clause-sources g c = λ p.
    let r = c.requires in
    rw (c.command_item.ensures.item, c.view-2.ensures)
    (given_sources c.args.side _ c.args.order _ p (g.P.Ports.device c.args.ports.now) _ r.phase r.ordered
    (ap (λ (d : Device). d.file.phase) c.give-side.ensures.drive))
