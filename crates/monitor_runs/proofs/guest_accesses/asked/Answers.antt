use Rattle.std.proofs.Common.{false, subst, sym, ap, ◌∙◌}
use Rattle.drive_model.specs.Drive.{device_of}
use Rattle.dummy_read.specs.Flight.{IsInFlight}
use Rattle.guest_view.specs.Drive.{drive_after}
use Rattle.guest_view.proofs.DrivesWork.{flies_on}
use Rattle.monitor_runs.proofs.guest_accesses.asked.Goals as goal

pub returns-clause-flies : goal.returns-clause-flies
returns-clause-flies c = λ sector waits calm flies.
    let v = c.args.side.now.view in
    let d = device_of c.args.machine.now.drive in
    subst (IsInFlight sector false)
    (sym (c.access.ensures.drive ∙ ap (λ w. drive_after w v c.args.access.now d) waits))
    (flies_on sector v c.args.access.now d calm flies)
