use Rattle.std.proofs.Common.{subst, sym, ap, ◌∙◌}
use Rattle.guest_view.specs.Seen.{on_monitor_side, IsInStep}
use Rattle.guest_view.specs.View.{view_after}
use Rattle.guest_view.specs.Drive.{drive_after}
use Rattle.guest_view.specs.Fits.{FitsView}
use Rattle.guest_view.proofs.OneDevice.{monitored}
use Rattle.guest_view.proofs.StaysFit.{fits_after}
use Rattle.guest_view.proofs.StaysInStep.{in_step}
use Rattle.guest_view.proofs.accesses.access.Goals as goal

pub returns-clause-after : goal.returns-clause-after
returns-clause-after g c = λ device same.
    let v = c.args.side.now.view in
    let d = g.P.Ports.device c.args.ports.now in
    let a = c.args.access.now in
    let view = c.access_view-answer.ensures.view ∙ ap (view_after a c.args.sectors) c.view.ensures in
    let drive = c.access_view-answer.ensures.drive ∙ ap (λ w. drive_after c.args.waits w a d) c.view.ensures in
    monitored c.args.waits v d device a c.requires.step c.requires.fits.served c.requires.no_reset
    ∙ ap (λ n. on_monitor_side (view_after a n v) (drive_after c.args.waits v a d) device) same
    ∙ ap (λ w. on_monitor_side w (drive_after c.args.waits v a d) device) (sym view)
    ∙ ap (λ e. on_monitor_side c.access_view-answer.new.view e device) (sym drive)

pub returns-clause-fits : goal.returns-clause-fits
returns-clause-fits g c =
    let view = c.access_view-answer.ensures.view
    ∙ ap (view_after c.args.access.now c.args.sectors) c.view.ensures in
    subst (λ v. FitsView v c.args.sectors) (sym view)
    (fits_after c.args.access.now c.args.side.now.view c.args.sectors c.requires.fits)

pub returns-clause-step : goal.returns-clause-step
returns-clause-step g c =
    let d = g.P.Ports.device c.args.ports.now in
    let view = c.access_view-answer.ensures.view
    ∙ ap (view_after c.args.access.now c.args.sectors) c.view.ensures in
    let drive = c.access_view-answer.ensures.drive
    ∙ ap (λ v. drive_after c.args.waits v c.args.access.now d) c.view.ensures in
    subst (λ v. IsInStep c.args.waits v (g.P.Ports.device c.access_view-answer.new.ports)) (sym view)
    (subst (IsInStep c.args.waits (view_after c.args.access.now c.args.sectors c.args.side.now.view)) (sym drive)
    (in_step c.args.waits c.args.side.now.view d c.args.sectors c.args.access.now c.requires.step
    c.requires.no_reset))
