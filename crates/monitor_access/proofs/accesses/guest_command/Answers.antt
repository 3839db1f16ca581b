use Rattle.std.proofs.Common.{sym, subst}
use Rattle.ata_taskfile.specs.Device.{Device}
use Rattle.monitor_state.specs.declared.state.State.TheVariants.{Guest}
use Rattle.monitor_state.specs.Seen.{Shows}
use Rattle.monitor_access.proofs.accesses.guest_command.Goals as goal

pub returns-clause-shown : goal.returns-clause-shown
returns-clause-shown g c = λ memory q shows none.
    c.taken_for.ensures.shown memory q
    (subst (λ (d : Device). Shows (Guest c.args.side) c.args.parts.now d memory q)
    (sym c.shows_rest.ensures.unmoved) shows) none
