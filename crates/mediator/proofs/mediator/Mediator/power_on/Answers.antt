use Rattle.std.proofs.Common.{sym, subst}
use Rattle.monitor_state.specs.Start.{IsSideAtPowerOn}
use Rattle.mediator.specs.Mediator.{StartsWith}
use Rattle.mediator.proofs.Coupled.{stands_at_power_on}
use Rattle.mediator.proofs.Starts.{begun_again, fit_itself}
use Rattle.mediator.proofs.mediator.Mediator.power_on.Goals as goal

pub returns-clause-fits : goal.returns-clause-fits
returns-clause-fits c =
    let old = c.args.self.now in
    begun_again old c.replace.result _ c.power_on.result _ _ c.requires.fit c.end.ensures.given c.replace.ensures.after
    (record { view = c.power_on.ensures.view; own = c.power_on.ensures.own }) c.restart.ensures.begun

pub returns-clause-fit : goal.returns-clause-fit
returns-clause-fit c = fit_itself _ (returns-clause-fits c)

pub returns-clause-stands : goal.returns-clause-stands
returns-clause-stands c =
    let area = c.requires.fit.area in
    let starts : IsSideAtPowerOn c.power_on.result =
    record { view = c.power_on.ensures.view; own = c.power_on.ensures.own } in
    stands_at_power_on c.args.self.now.parts.area c.args.self.now.parts.id _ _ area.suitable area.image record {
      state = subst StartsWith (sym c.replace.ensures.after) starts;
      parts = c.restart.ensures.begun;
    }
