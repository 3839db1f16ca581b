use Rattle.block_writes.proofs.Told.{IfTold-weaker}
use Rattle.bm_host.specs.declared.Role.TheVariants.{Image}
use Rattle.world.specs.Machine.{physical}
use Rattle.world.proofs.Starting.{begins_as_plain}
use Rattle.world.proofs.world.World.start.Goals as goal

pub returns-clause-stands : goal.returns-clause-stands
returns-clause-stands g c =
    let setup = c.args.setup.now in
    let loaded = c.in_ok-machine.ensures in
    let own = c.in-Ok-monitor_over in
    record {
      stands = IfTold-weaker ((g.H.Host.outside c.args.host.now).told Image) _ _
          (λ image enough some. begins_as_plain (record { area = setup.area; id = setup.id; image = image })
          c.args.memory (physical c.in_ok-machine.machine) enough loaded.began loaded.count own.mediator
          own.ensures.stands own.ensures.sound own.ensures.watched c.in-Ok.net c.in-Ok.ensures some)
          c.requires.image;
    }
