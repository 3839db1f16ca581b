use Rattle.mediator.proofs.Coupled.{stands_at_power_on}
use Rattle.mediator.proofs.mediator.Mediator.new.Goals as goal

pub returns-clause-stands : goal.returns-clause-stands
returns-clause-stands c =
    let setup = c.args.setup.now in
    stands_at_power_on setup.area setup.id setup.pool _ c.requires.setup.area c.requires.image record {
      state = record { view = c.power_on.ensures.view; own = c.power_on.ensures.own };
      parts = c.in_ok-new.ensures.begun;
    }
