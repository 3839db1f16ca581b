-- The step that was planned for the view: what is in hand after it, and what the view shows.
use Rattle.std.proofs.Common.{◌≡◌, true, refl, arith}
use Rattle.ata_taskfile.specs.declared.Taken.TheVariants.{Good, Bad}
use Rattle.ata_taskfile.specs.declared.Phase.{Phase}
use Rattle.ata_taskfile.specs.declared.Phase.TheVariants.{Reset, Idle, Busy, Ready}
use Rattle.ata_taskfile.specs.TaskFile.{masks_line}
use Rattle.port_lease.specs.declared.view.View.{View}
use Rattle.monitor_state.specs.declared.parts.Parts.{Parts}
use Rattle.monitor_state.specs.declared.state.Plan.{Plan}
use Rattle.monitor_state.specs.declared.state.Plan.TheVariants as plan
use Rattle.monitor_state.specs.Hand.{HasInHand}
use Rattle.monitor_state.specs.Fits.{FitsPlan}
use Rattle.monitor_state.proofs.ViewSteps.{failed_empty, finished_empty, offered_in_hand, refused_empty}
use Rattle.monitor_events.specs.Stepping.{parts_planned, planned_in}

-- what is in hand after the step that was planned
pub hand_planned : (planned : Plan) (phase : Phase) (v : View) (p : Parts) → FitsPlan planned phase p
    → HasInHand phase v p
    → HasInHand (planned_in planned phase v).file.phase (planned_in planned phase v) (parts_planned planned p)
hand_planned plan.Serve (Busy (Good order) done) v p fits has =
    offered_in_hand v p order done fits.0 fits.2 fits.3 has
hand_planned plan.End phase v p fits has = finished_empty phase v p fits has
hand_planned plan.Fail (Busy (Good order) done) v p fits has = failed_empty (Busy (Good order) done) v p fits has
hand_planned plan.Reserved phase v p fits has = (refused_empty phase v p fits has).0
hand_planned plan.Serve Reset v p fits has = absurd fits
hand_planned plan.Serve Idle v p fits has = absurd fits
hand_planned plan.Serve (Busy (Bad reason) done) v p fits has = absurd fits
hand_planned plan.Serve (Ready order done left) v p fits has = absurd fits
hand_planned plan.Fail Reset v p fits has = absurd fits
hand_planned plan.Fail Idle v p fits has = absurd fits
hand_planned plan.Fail (Busy (Bad reason) done) v p fits has = absurd fits
hand_planned plan.Fail (Ready order done left) v p fits has = absurd fits

-- an interrupt pends in the view after it, and nIEN is what it was
pub shown_planned : (planned : Plan) (phase : Phase) (v : View) (p : Parts) → FitsPlan planned phase p
    → ((planned_in planned phase v).file.pending ≡ true)
    × (masks_line (planned_in planned phase v).file ≡ masks_line v.file)
shown_planned plan.Serve (Busy (Good order) done) v p fits = (refl, refl)
shown_planned plan.End phase v p fits = (refl, refl)
shown_planned plan.Fail (Busy (Good order) done) v p fits = (refl, grind arith)
shown_planned plan.Reserved phase v p fits = (refl, refl)
shown_planned plan.Serve Reset v p fits = absurd fits
shown_planned plan.Serve Idle v p fits = absurd fits
shown_planned plan.Serve (Busy (Bad reason) done) v p fits = absurd fits
shown_planned plan.Serve (Ready order done left) v p fits = absurd fits
shown_planned plan.Fail Reset v p fits = absurd fits
shown_planned plan.Fail Idle v p fits = absurd fits
shown_planned plan.Fail (Busy (Bad reason) done) v p fits = absurd fits
shown_planned plan.Fail (Ready order done left) v p fits = absurd fits
