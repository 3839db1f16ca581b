use Rattle.std.proofs.Common.{ap, ◌∙◌, subst}
use Rattle.ata_taskfile.specs.TaskFile.{line}
use Rattle.ata_taskfile.specs.Device.{Device}
use Rattle.port_lease.specs.Seen.{bus_on_guest_side, on_guest_side}
use Rattle.port_lease.specs.Sides.{view_held, view_kept}
use Rattle.guest_view.specs.Seen.{on_monitor_side}
use Rattle.monitor_state.specs.Seen.{Shows}
use Rattle.monitor_access.proofs.Commands.{command_answered, command_reads_none, unraised}
use Rattle.monitor_access.proofs.Taking.{calmed, taken_alike, taken_fits, taken_shown}
use Rattle.monitor_access.proofs.Requests.{taken_requests}
use Rattle.monitor_access.proofs.Sources.{taken_keeps}
use Rattle.monitor_access.proofs.accesses.taken_for.Goals as goal

pub resting-requires-clause-fits : goal.resting-requires-clause-fits
resting-requires-clause-fits g c =
    let ok = c.in-Ok.ensures in
    taken_fits c.args.side c.in-Ok.side c.args.parts.now (g.P.Ports.device c.args.ports.now)
    (g.P.Ports.device c.access.new.ports) (g.P.Ports.device c.take.new.ports)
    (view_kept c.access.new.self).file.command c.requires.rests (g.met.P.Ports.lawful c.args.ports.now).pairs
    c.access.ensures.drive ok.file ok.drive ok.alone ok.lawful c.requires.fits

pub returns-clause-answered : goal.returns-clause-answered
returns-clause-answered g c =
    let a = c.args.access.now in
    let d = g.P.Ports.device c.args.ports.now in
    let v = view_held c.in-Ok.side in
    let none = command_reads_none a v.file.phase c.requires.command in
    c.resting.ensures.answered d (λ reads. absurd cc)
    ∙ command_answered a (on_monitor_side v (g.P.Ports.device c.take.new.ports) d)
    (on_guest_side (view_kept c.args.side) d) c.requires.command

pub returns-clause-shown : goal.returns-clause-shown
returns-clause-shown g c = λ memory q shows none.
    let d = g.P.Ports.device c.args.ports.now in
    let ok = c.in-Ok.ensures in
    let command = (view_kept c.access.new.self).file.command in
    let file = ok.file ∙ ap (λ (x : Device). record x.file { command = command }) c.access.ensures.drive in
    let bus = ok.same.bus ∙ ap (λ (x : Device). x.bus) (c.access.ensures.after c.requires.fits.device.1)
    ∙ unraised (line d.file) (bus_on_guest_side (view_kept c.args.side) d.bus) in
    subst (λ (x : Device). Shows c.resting.result.0 c.resting.new.parts (g.P.Ports.device c.resting.new.ports) memory
    (record q { device = x }))
    (taken_alike c.args.access.now q d.file c.requires.command c.requires.rests shows.file)
    (c.resting.ensures.shown memory (calmed q)
    (taken_shown c.args.side c.in-Ok.side c.args.parts.now d (g.P.Ports.device c.take.new.ports) command memory q
    c.requires.rests file bus shows) none)

pub returns-clause-sources : goal.returns-clause-sources
returns-clause-sources g c =
    let ok = c.in-Ok.ensures in
    let command = (view_kept c.access.new.self).file.command in
    taken_keeps c.args.access.now c.args.side c.in-Ok.side c.resting.result.0 c.args.parts.now c.resting.new.parts
    (g.P.Ports.device c.args.ports.now) (g.P.Ports.device c.take.new.ports) (g.P.Ports.device c.resting.new.ports)
    command (ok.file ∙ ap (λ (x : Device). record x.file { command = command }) c.access.ensures.drive)
    c.resting.ensures.sources

pub returns-clause-requests : goal.returns-clause-requests
returns-clause-requests g c =
    let ok = c.in-Ok.ensures in
    let command = (view_kept c.access.new.self).file.command in
    taken_requests c.args.access.now c.args.side c.in-Ok.side c.resting.result.0 c.args.parts.now c.resting.new.parts
    (g.P.Ports.device c.args.ports.now) (g.P.Ports.device c.take.new.ports) command c.requires.rests
    (ok.file ∙ ap (λ (x : Device). record x.file { command = command }) c.access.ensures.drive)
    c.resting.ensures.requests
