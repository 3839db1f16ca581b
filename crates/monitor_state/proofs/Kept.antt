-- A guest's access on the monitor's side keeps the parts fit.
use Rattle.std.proofs.Common.{◌≡◌, ℕ, ◌+◌, Bool, true, false, not, if◌then◌else◌, refl, sym, ap, ◌∙◌, subst}
use Rattle.std.specs.Prelude.{is_some}
use Rattle.ata_taskfile.specs.declared.Access.{Access}
use Rattle.fill_bitmap.specs.declared.area.Area.{Area}
use Rattle.fill_store.specs.Opening.{next_in_opening}
use Rattle.ata_taskfile.specs.declared.Taken.TheVariants.{Good, Bad}
use Rattle.ata_taskfile.specs.declared.Phase.{Phase}
use Rattle.ata_taskfile.specs.declared.Phase.TheVariants.{Reset, Idle, Busy, Ready}
use Rattle.ata_taskfile.specs.TaskFile.{is_at_work}
use Rattle.ata_taskfile.specs.Lawful.{is_in_reset}
use Rattle.port_lease.specs.declared.view.View.{View}
use Rattle.port_lease.specs.declared.monitor_side.MonitorSide.{MonitorSide}
use Rattle.port_lease.specs.Sides.{view_held}
use Rattle.own_pio.specs.declared.own.Own.{Own}
use Rattle.guest_view.specs.View.{is_reset, view_after}
use Rattle.guest_view.specs.Fits.{FitsView}
use Rattle.guest_view.proofs.DrivesWork.{stays_calm}
use Rattle.guest_view.proofs.StaysFit.{fits_after}
use Rattle.monitor_state.specs.declared.state.Purpose.{Purpose}
use Rattle.monitor_state.specs.declared.state.Purpose.TheVariants as purpose
use Rattle.monitor_state.specs.declared.state.Plan.{Plan}
use Rattle.monitor_state.specs.declared.state.Plan.TheVariants as plan
use Rattle.monitor_state.specs.declared.parts.Parts.{Parts}
use Rattle.monitor_state.specs.Pieces.{ends_before, piece_let_go, tidied}
use Rattle.monitor_state.specs.Hand.{HasInHand}
use Rattle.monitor_state.specs.Fits.{FitsMonitor, FitsPlan, FitsPurpose, ReadsIn}
use Rattle.monitor_state.proofs.Accesses.{accessed_in_hand, at_work_stays, at_work_untidied}
use Rattle.monitor_state.proofs.InHand.{Calms}

untouched-area : (ends : Bool) (p : Parts) → (if ends then piece_let_go p else p).area ≡ p.area
untouched-area true p = refl
untouched-area false p = refl

-- what is let go leaves the area
pub same_area : (phase : Phase) (p : Parts) → (tidied phase p).area ≡ p.area
same_area Reset p = refl
same_area Idle p = refl
same_area (Busy (Good order) done) p = untouched-area (ends_before (order.first + done) p.held) p
same_area (Busy (Bad reason) done) p = refl
same_area (Ready order done left) p = refl

untouched-opening : (ends : Bool) (p : Parts) → (if ends then piece_let_go p else p).opening ≡ p.opening
untouched-opening true p = refl
untouched-opening false p = refl

-- and the opening
pub same_opening : (phase : Phase) (p : Parts) → (tidied phase p).opening ≡ p.opening
same_opening Reset p = refl
same_opening Idle p = refl
same_opening (Busy (Good order) done) p = untouched-opening (ends_before (order.first + done) p.held) p
same_opening (Busy (Bad reason) done) p = refl
same_opening (Ready order done left) p = refl

pub reset_at_work : (phase : Phase) → is_in_reset phase ≡ true → is_at_work phase ≡ true
reset_at_work Reset resets = refl
reset_at_work Idle resets = cc
reset_at_work (Busy order done) resets = refl
reset_at_work (Ready order done left) resets = cc

reads_at_work : (phase : Phase) (own : Own) (first count : ℕ) (v : View) (p : Parts) → ReadsIn phase own first count v p
    → is_at_work phase ≡ true
reads_at_work Reset own first count v p reads = refl
reads_at_work Idle own first count v p reads = absurd reads
reads_at_work (Busy order done) own first count v p reads = refl
reads_at_work (Ready order done left) own first count v p reads = absurd reads

-- the view is at work while an own command stands
pub purpose_at_work : (why : Purpose) (own : Own) (v : View) (p : Parts) → FitsPurpose why own v p
    → is_at_work v.file.phase ≡ true
purpose_at_work purpose.Opening own v p fits = reset_at_work v.file.phase fits.1
purpose_at_work (purpose.Piece first count lease) own v p fits =
    reads_at_work v.file.phase own first count v p fits

-- and while a dummy read is in flight
pub plan_at_work : (planned : Plan) (phase : Phase) (p : Parts) → FitsPlan planned phase p → is_at_work phase ≡ true
plan_at_work planned Reset p fits = refl
plan_at_work planned (Busy order done) p fits = refl
plan_at_work plan.Serve Idle p fits = absurd fits
plan_at_work plan.End Idle p fits = absurd fits
plan_at_work plan.Fail Idle p fits = absurd fits
plan_at_work plan.Reserved Idle p fits = absurd fits
plan_at_work plan.Serve (Ready order done left) p fits = absurd fits
plan_at_work plan.End (Ready order done left) p fits = absurd fits
plan_at_work plan.Fail (Ready order done left) p fits = absurd fits
plan_at_work plan.Reserved (Ready order done left) p fits = absurd fits

reads_calmer : (phase : Phase) (own : Own) (first count : ℕ) (v w : View) (p : Parts) → Calms v w
    → ReadsIn phase own first count v p → ReadsIn phase own first count w p
reads_calmer Reset own first count v w p calms reads = reads
reads_calmer Idle own first count v w p calms reads = reads
reads_calmer (Busy order done) own first count v w p calms reads = record {
  job = reads.job;
  opened = reads.opened;
  calm = calms reads.calm;
  unheld = reads.unheld;
  unasked = reads.unasked;
  unfailed = reads.unfailed;
  redirected = reads.redirected;
  on_disk = reads.on_disk;
  some = reads.some;
  room = reads.room;
}
reads_calmer (Ready order done left) own first count v w p calms reads = reads

-- a purpose stays that of an own command, in a view of the same phase in which no interrupt has come
pub purpose_calmer : (why : Purpose) (own : Own) (v w : View) (p : Parts) → w.file.phase ≡ v.file.phase → Calms v w
    → FitsPurpose why own v p → FitsPurpose why own w p
purpose_calmer purpose.Opening own v w p same calms fits =
    (fits.0, subst (λ phase. is_in_reset phase ≡ true) (sym same) fits.1)
purpose_calmer (purpose.Piece first count lease) own v w p same calms fits =
    subst (λ phase. ReadsIn phase own first count w p) (sym same)
    (reads_calmer v.file.phase own first count v w p calms fits)

module _ (a : Access) (old : MonitorSide) (p : Parts) (runs : is_reset a ≡ false)
    (fits : FitsView (view_held old) p.area.sectors)
    (has : HasInHand (view_held old).file.phase (view_held old) p) where
  pub calms : Calms (view_held old) (view_after a p.area.sectors (view_held old))
  calms = stays_calm a p.area.sectors (view_held old)

  pub in_hand : let w = view_after a p.area.sectors (view_held old) in
      HasInHand w.file.phase w (tidied w.file.phase p)
  in_hand = accessed_in_hand a p.area.sectors (view_held old) p fits runs has

  pub view_fits : let w = view_after a p.area.sectors (view_held old) in
      FitsView w (tidied w.file.phase p).area.sectors
  view_fits = let w = view_after a p.area.sectors (view_held old) in
      subst (λ (area : Area). FitsView w area.sectors) (sym (same_area w.file.phase p))
      (fits_after a (view_held old) p.area.sectors fits)

  pub stays : is_at_work (view_held old).file.phase ≡ true
      → (view_after a p.area.sectors (view_held old)).file.phase ≡ (view_held old).file.phase
  stays = at_work_stays a p.area.sectors (view_held old) fits runs

  -- while the view is at work the parts stay as they are
  pub untidied : is_at_work (view_held old).file.phase ≡ true
      → tidied (view_after a p.area.sectors (view_held old)).file.phase p ≡ p
  untidied at_work =
      ap (λ phase. tidied phase p) (stays at_work)
      ∙ at_work_untidied (view_held old).file.phase (view_held old) p has at_work

  pub opens : FitsMonitor (view_held old) p
      → let w = view_after a p.area.sectors (view_held old) in FitsMonitor w (tidied w.file.phase p)
  opens monitor = let w = view_after a p.area.sectors (view_held old) in record {
    opened = λ closed.
        let resets = monitor.opened
        (ap (λ o. not (is_some (next_in_opening o))) (sym (same_opening w.file.phase p)) ∙ closed) in
        ap is_in_reset (stays (reset_at_work (view_held old).file.phase resets)) ∙ resets;
  }
