use Rattle.std.proofs.Common.{◌≡◌, ◌+◌, ◌≤◌, true, Option, sym, ap, ◌∙◌, subst}
use Rattle.ata_taskfile.specs.declared.Phase.{Phase}
use Rattle.ata_taskfile.specs.declared.Phase.TheVariants.{Busy}
use Rattle.ata_taskfile.specs.declared.Taken.TheVariants.{Good}
use Rattle.ata_taskfile.specs.declared.task_file.TaskFile.{TaskFile}
use Rattle.ata_taskfile.specs.Lawful.{position_of}
use Rattle.port_lease.specs.declared.view.View.{View}
use Rattle.schedule_text.specs.declared.Item.{Item}
use Rattle.monitor_state.specs.declared.parts.Parts.{Parts}
use Rattle.monitor_state.specs.declared.state.State.TheVariants.{Monitor}
use Rattle.monitor_state.specs.Pieces.{tidied}
use Rattle.monitor_turn.specs.Turned.{HasTurned}
use Rattle.port_lease.specs.Sides.{view_held}
use Rattle.redirect.specs.Next.{request_of}
use Rattle.redirect.specs.Scatter.{at_position}
use Rattle.monitor_turn.proofs.Scattered.{further, inside, scattered_fits, scattered_goes}
use Rattle.std.specs.Prelude.{IfSome}
use Rattle.redirect.specs.Next.{has_sector}
use Rattle.redirect.specs.Read.{sector_in}
use Rattle.monitor_state.specs.State.{end_of_piece, range_of}
use Rattle.monitor_turn.proofs.InHand.{redirected_by}
use Rattle.monitor_turn.proofs.StepSources.{scattered_sources}
use Rattle.monitor_turn.proofs.redirected.scattered.Goals as goal

pub returns-clause-turned : goal.returns-clause-turned
returns-clause-turned g c =
    let m = c.moved-steps.ensures in
    let r = c.requires in
    let request = request_of c.args.redirect in
    let v = view_held c.args.side in
    let w = view_held c.moved-steps.new.side in
    let done = position_of v.file.phase in
    let n = position_of w.file.phase in
    let at = r.worked_on.phase in
    let file : w.file ≡ record v.file { phase = Busy (Good request) n } =
    m.file ∙ ap (λ (phase : Phase). record v.file { phase = at_position n phase }) at in
    let is = ap (λ (f : TaskFile). f.phase) file in
    let p = c.args.parts.now in
    let d = g.P.Ports.device c.args.ports.now in
    let side = c.moved-steps.new.side in
    let seen = ap (λ (v : View). v.file.phase) c.view.ensures ∙ is in
    let left = c.tidy.ensures.after ∙ ap (λ (phase : Phase). tidied phase p) seen in
    let made = scattered_fits c.args.side side c.args.redirect done n c.moved-steps.result p d r.fits r.opened
    r.worked_on r.served (m.own ∙ r.fits.parts.state.0) file m.fits
    (further v.file.phase w.file.phase request done n at is m.least)
    (inside v.file.phase w.file.phase request done n at is m.most) in
    subst (λ (q : Parts). HasTurned p d (Monitor side) c.steps_item.result q d) (sym left)
    (subst (λ (told : Option Item). HasTurned p d (Monitor side) told (tidied (Busy (Good request) n) p) d)
    (sym c.steps_item.ensures.item) made)

pub returns-clause-shown : goal.returns-clause-shown
returns-clause-shown g c =
    let m = c.moved-steps.ensures in
    let r = c.requires in
    let w = view_held c.moved-steps.new.side in
    let p = c.args.parts.now in
    let d = g.P.Ports.device c.args.ports.now in
    let n = position_of w.file.phase in
    let is : w.file.phase ≡ Busy (Good (request_of c.args.redirect)) n =
    ap (λ (f : TaskFile). f.phase) m.file ∙ ap (at_position n) r.worked_on.phase in
    let seen = ap (λ (v : View). v.file.phase) c.view.ensures ∙ is in
    let left = c.tidy.ensures.after ∙ ap (λ (phase : Phase). tidied phase p) seen in
    rw (left, c.steps_item.ensures.item)
    (scattered_goes c.args.side c.moved-steps.new.side c.args.redirect _ n c.moved-steps.result p d
    c.args.memory.now c.moved-steps.new.memory r.fits r.worked_on is m.steps m.act)

pub returns-clause-sources : goal.returns-clause-sources
returns-clause-sources g c =
    let m = c.moved-steps.ensures in
    let r = c.requires in
    let v = view_held c.args.side in
    let w = view_held c.moved-steps.new.side in
    let request = request_of c.args.redirect in
    let steps = c.moved-steps.result in
    let p = c.args.parts.now in
    let n = position_of w.file.phase in
    let at = r.worked_on.phase in
    let is : w.file.phase ≡ Busy (Good request) n =
    ap (λ (f : TaskFile). f.phase) m.file ∙ ap (at_position n) at in
    let seen = ap (λ (v : View). v.file.phase) c.view.ensures ∙ is in
    let left = c.tidy.ensures.after ∙ ap (λ (phase : Phase). tidied phase p) seen in
    let hand = redirected_by v p c.args.redirect request (position_of v.file.phase) at r.worked_on.redirect_is
    r.fits.parts.state.2 in
    rw (left, c.steps_item.ensures.item)
    (scattered_sources c.args.side c.moved-steps.new.side request (position_of v.file.phase) n steps p _ at
    r.served.form_is
    (subst (λ (phase : Phase). has_sector (range_of p.held) (sector_in phase) ≡ true) at r.served.here)
    (subst (λ (phase : Phase). IfSome p.held (λ held. sector_in phase + steps ≤ end_of_piece held)) at m.count)
    hand.held)
