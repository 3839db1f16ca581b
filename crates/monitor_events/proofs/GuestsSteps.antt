-- A step of the drive while the guest has it, as the guest sees it.
use Rattle.std.proofs.Common.{◌≡◌, Bool, true, false, refl, sym, ap, ◌∙◌, subst, arith}
use Rattle.ata_taskfile.specs.declared.Step.{Step}
use Rattle.ata_taskfile.specs.declared.Step.TheVariants as step
use Rattle.ata_taskfile.specs.declared.Stepped.{Stepped}
use Rattle.ata_taskfile.specs.declared.Stepped.TheVariants.{Changed, Nothing}
use Rattle.plain_drive.specs.Physical.{AreEndsOf}
use Rattle.plain_drive.specs.Plain.{Plain, with_cells}
use Rattle.plain_drive.specs.Seen.{HasStepped}
use Rattle.plain_drive.specs.Step.{acts, step_made, stepped_if}
use Rattle.plain_drive.proofs.Likeness.{acts_alike, let_go_alike}
use Rattle.plain_drive.proofs.Steps.{step_made_no}
use Rattle.plain_run.specs.Plan.{ActsAlong, planned}
use Rattle.port_lease.specs.declared.guest_side.GuestSide.{GuestSide}
use Rattle.port_lease.specs.declared.view.View.{View}
use Rattle.port_lease.specs.Seen.{drive_on_guest_side}
use Rattle.port_lease.specs.Sides.{view_kept}
use Rattle.port_lease.specs.View.{IsGiven}
use Rattle.port_lease.proofs.GuestSteps.{acts_seen, step_seen}
use Rattle.monitor_state.specs.declared.parts.Parts.{Parts}
use Rattle.monitor_state.specs.declared.state.State.TheVariants.{Guest}
use Rattle.monitor_state.specs.Seen.{Shows}
use Rattle.monitor_state.specs.GoesOn.{GoesOn}
use Rattle.monitor_state.proofs.Shown.{alike_shown, lawful_there, shown_alike}
use Rattle.monitor_state.proofs.Steps.{stepped_fits}
use Rattle.streaming.specs.Monitor.{item_of}
use Rattle.monitor_events.specs.Shown.{HasComeTo}
use Rattle.monitor_events.specs.Stepping.{plan_of_step}

-- a step of the drive is one of the drive on the guest's side
stepped_there : (v : View) (kind : Step) (effect : Stepped) (old now : Plain) → IsGiven v old.device
    → HasStepped kind effect old now
    → HasStepped kind effect (drive_on_guest_side v old) (drive_on_guest_side v now)
stepped_there v kind effect old now given stepped = record {
  answer = stepped.answer ∙ ap stepped_if (sym (acts_seen v kind old given));
  after = ap (drive_on_guest_side v) stepped.after
      ∙ ap (with_cells now.device.cells) (step_seen v kind old given);
  cells = subst (λ (t : Plain). AreEndsOf now.device.cells t.device.cells) (step_seen v kind old given) stepped.cells;
}

-- a step is told where it has an effect, and else leaves the drive as it is
pub effect_told : (kind : Step) (effect : Stepped) (there : Bool) (q : Plain) → acts kind q ≡ there
    → effect ≡ stepped_if there
    → ActsAlong (item_of (plan_of_step kind effect)) q
    × (step_made kind q ≡ planned (item_of (plan_of_step kind effect)) q)
effect_told kind Nothing true q is effect = cc
effect_told kind Nothing false q is effect = (tt, step_made_no kind q is)
effect_told step.Good Changed true q is effect = ((omega arith, (tt, is), tt), refl)
effect_told step.Bad Changed true q is effect = ((is, tt), refl)
effect_told step.Good Changed false q is effect = cc
effect_told step.Bad Changed false q is effect = cc

-- each step with an effect is told, and the plain drive makes it
pub guests_step_shown : (side : GuestSide) (p : Parts) (kind : Step) (effect : Stepped) (old now : Plain)
    → HasComeTo (Guest side) p kind effect old now
    → GoesOn (Guest side) p old.device old.memory (item_of (plan_of_step kind effect)) (Guest side) p now.device
    now.memory
guests_step_shown side p kind effect old now come q shows agree =
    let v = view_kept side in
    let given = come.fits.device.1 in
    let alike = shown_alike side p old.device old.memory q come.fits.sectors shows (agree.drives refl) in
    let told = effect_told kind effect (acts kind old) q
    (acts_alike (drive_on_guest_side v old) q alike kind ∙ acts_seen v kind old given) come.stepped.answer in
    let after = let_go_alike kind effect (drive_on_guest_side v old) q (drive_on_guest_side v now)
    (lawful_there side old.device come.lawful) alike (stepped_there v kind effect old now given come.stepped) in
    let sectors : now.device.sectors ≡ p.area.sectors
    = (stepped_fits (Guest side) p kind effect old now come.lawful come.fits come.stepped).sectors in (
      told.0,
      subst (Shows (Guest side) p now.device now.memory) told.1
          (alike_shown side p now.device now.memory (step_made kind q) sectors after),
    )
