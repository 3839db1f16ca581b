use Rattle.std.proofs.Common.{ap, ◌∙◌}
use Rattle.plain_drive.specs.Physical.{physical_cut}
use Rattle.world.specs.Machine.{physical}
use Rattle.world.proofs.events.cut.Goals as goal

pub returns : goal.returns
returns c = record {
  after = c.cut.ensures.cut c.args.machine.now.memory c.clear.new.self
      ∙ ap (λ m. physical_cut m (physical c.args.machine.now)) c.clear.ensures.zeros;
}
