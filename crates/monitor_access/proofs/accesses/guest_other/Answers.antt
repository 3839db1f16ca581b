use Rattle.std.proofs.Common.{refl, sym, ap, ◌∙◌, subst}
use Rattle.ata_taskfile.specs.Device.{Device}
use Rattle.port_lease.specs.Seen.{on_guest_side}
use Rattle.port_lease.specs.Sides.{view_kept}
use Rattle.monitor_state.specs.declared.state.State.TheVariants.{Guest}
use Rattle.monitor_access.specs.Marks.{TakesNone}
use Rattle.monitor_access.proofs.Beside.{accessed_as}
use Rattle.monitor_access.proofs.Commands.{reached_none}
use Rattle.monitor_access.proofs.Sides.{guest_fits}
use Rattle.plain_drive.specs.Alike.{reads_sector}
use Rattle.monitor_access.proofs.Sources.{guest_keeps, other_takes_none, reached_reads}
use Rattle.monitor_access.proofs.accesses.guest_other.Goals as goal

pub returns-clause-fits : goal.returns-clause-fits
returns-clause-fits g c =
    let call = c.access-answer in
    guest_fits c.args.side call.new.self c.args.parts.now c.args.access.now (g.P.Ports.device c.args.ports.now)
    (g.P.Ports.device call.new.ports) call.ensures.drive call.ensures.kept
    (call.ensures.given c.requires.fits.device.1) c.requires.other c.requires.no_reset c.requires.fits

pub returns-clause-commands : goal.returns-clause-commands
returns-clause-commands g c =
    let d = g.P.Ports.device c.args.ports.now in
    subst (λ (e : Device). TakesNone d.file e.file) (sym c.access-answer.ensures.drive)
    (reached_none (view_kept c.args.side) c.args.access.now d c.requires.other)

pub returns-clause-shown : goal.returns-clause-shown
returns-clause-shown g c = λ memory q shows unmarked.
    let d = g.P.Ports.device c.args.ports.now in
    let kept = view_kept c.args.side in
    accessed_as (on_guest_side kept d) q shows.file shows.bus shows.block
    (shows.sectors ∙ sym c.requires.fits.sectors) c.args.access.now
    (on_guest_side (view_kept c.access-answer.new.self) (g.P.Ports.device c.access-answer.new.ports))
    (Guest c.access-answer.new.self) c.args.parts.now (g.P.Ports.device c.access-answer.new.ports) memory
    (sym (c.access-answer.ensures.after c.requires.fits.device.1)) refl refl (λ matters. refl)
    (returns-clause-fits g c).sectors refl shows.memory_is

pub returns-clause-sources : goal.returns-clause-sources
returns-clause-sources g c =
    let d = g.P.Ports.device c.args.ports.now in
    let a = c.args.access.now in
    let none = other_takes_none a d.file c.requires.other in
    guest_keeps a c.args.side c.access-answer.new.self c.args.parts.now d
    (g.P.Ports.device c.access-answer.new.ports) none
    (λ s reads. reached_reads (view_kept c.args.side) a d s none
    (ap (λ (e : Device). reads_sector e.file.phase s) (sym c.access-answer.ensures.drive) ∙ reads))
