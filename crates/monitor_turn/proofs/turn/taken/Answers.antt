use Rattle.std.proofs.Common.{sym, subst, ap, ◌∙◌}
use Rattle.ata_taskfile.specs.declared.task_file.TaskFile.{TaskFile}
use Rattle.ata_taskfile.specs.Device.{Device}
use Rattle.monitor_state.specs.declared.state.State.TheVariants.{Monitor}
use Rattle.monitor_state.specs.Fits.{Fits}
use Rattle.streaming.specs.Monitor.{item_of}
use Rattle.monitor_turn.proofs.Buffers.{taken_buffers}
use Rattle.monitor_turn.proofs.Taken.{taken_fits, taken_goes_on, taken_sources}
use Rattle.monitor_turn.proofs.Requests.{taken_requests}
use Rattle.monitor_turn.proofs.Told.{free_idle}
use Rattle.monitor_turn.proofs.turn.taken.Goals as goal

pub monitor-requires : goal.monitor-requires
monitor-requires g c =
    let ok = c.in-Ok.ensures in
    let p = c.args.parts.now in record {
      fits = subst (λ (d : Device). Fits (Monitor c.in-Ok.side) p d) (sym ok.drive)
          (taken_fits c.args.side c.in-Ok.side p _ c.requires.fits (sym ok.free)
          (g.met.P.Ports.lawful c.args.ports.now).pairs ok.file ok.alone ok.lawful);
    }

pub returns-in-Ok-clause-shown : goal.returns-in-Ok-clause-shown
returns-in-Ok-clause-shown g c =
    let ok = c.in-Ok.ensures in
    taken_goes_on c.args.side c.in-Ok.side c.args.parts.now _ _ _ _ _ _ (item_of c.monitor.result.1) _ (sym ok.free)
    ok.file ok.same c.monitor.ensures.shown

pub returns-in-Ok-clause-buffers : goal.returns-in-Ok-clause-buffers
returns-in-Ok-clause-buffers g c =
    let ok = c.in-Ok.ensures in
    taken_buffers c.args.side c.in-Ok.side _ c.args.parts.now _ _ _ _ c.requires.fits.parts.state.1
    (ap (λ (d : Device). d.cells) ok.drive) c.monitor.ensures.buffers

pub returns-in-Ok-clause-sources : goal.returns-in-Ok-clause-sources
returns-in-Ok-clause-sources g c =
    let ok = c.in-Ok.ensures in
    taken_sources c.args.side c.in-Ok.side c.args.parts.now _ _ _ _ _ _ (sym ok.free) ok.file ok.same
    c.monitor.ensures.sources

pub returns-in-Ok-clause-requests : goal.returns-in-Ok-clause-requests
returns-in-Ok-clause-requests g c =
    let ok = c.in-Ok.ensures in
    let d = g.P.Ports.device c.args.ports.now in
    taken_requests c.args.side c.in-Ok.side _ c.args.parts.now _ d c.requires.fits
    (ap (λ (f : TaskFile). f.phase) ok.file ∙ free_idle d.file (sym ok.free)) c.monitor.ensures.requests
