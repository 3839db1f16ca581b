-- The parts fit the state after a guest's access, as they did before.
use Rattle.std.proofs.Common.{◌≡◌, ℕ, false, sym, subst}
use Rattle.ata_taskfile.specs.declared.Access.{Access}
use Rattle.port_lease.specs.declared.monitor_side.MonitorSide.{MonitorSide}
use Rattle.port_lease.specs.Sides.{view_held}
use Rattle.own_pio.specs.declared.own.Own.{Own}
use Rattle.dummy_read.specs.declared.dummy.Dummy.{Dummy}
use Rattle.guest_view.specs.View.{is_reset, view_after}
use Rattle.monitor_state.specs.declared.state.State.TheVariants.{Monitor, Running, Raising}
use Rattle.monitor_state.specs.declared.state.Purpose.{Purpose}
use Rattle.monitor_state.specs.declared.state.Plan.{Plan}
use Rattle.monitor_state.specs.declared.parts.Parts.{Parts}
use Rattle.monitor_state.specs.Pieces.{tidied}
use Rattle.guest_view.specs.Fits.{FitsView}
use Rattle.monitor_state.specs.Hand.{HasInHand}
use Rattle.monitor_state.specs.Fits.{FitsParts, FitsPlan}
use Rattle.monitor_state.specs.Accessed.{IsAccessed}
use Rattle.monitor_state.proofs.Kept.{calms, in_hand, opens, plan_at_work, purpose_at_work, purpose_calmer, stays, untidied, view_fits}
use Rattle.monitor_state.proofs.LetGo.{tidied_area, tidied_leased}

-- a side whose view is another one
abbrev with_view : (a : Access) (n : ℕ) (old : MonitorSide) → MonitorSide
with_view a n old = record old { view = view_after a n (view_held old) }

is_side : (a : Access) (n : ℕ) (old new : MonitorSide) → IsAccessed a n old new → with_view a n old ≡ new
is_side a n old new is = λ i. record { view = sym is.view i; own = sym is.own i }

module _ (a : Access) (old new : MonitorSide) (p : Parts) (runs : is_reset a ≡ false)
    (is : IsAccessed a p.area.sectors old new) where
  monitor_with : FitsParts (Monitor old) p
      → let side = with_view a p.area.sectors old in FitsParts (Monitor side) (tidied (view_held side).file.phase p)
  monitor_with fits =
      let w = view_after a p.area.sectors (view_held old) in
      let state = fits.state in record {
        area = tidied_area w.file.phase p fits.area;
        leased = tidied_leased w.file.phase (Monitor (with_view a p.area.sectors old)) p
            record { held = fits.leased.held; counted = fits.leased.counted };
        state = (
          state.0,
          view_fits a old p runs state.1 state.2,
          in_hand a old p runs state.1 state.2,
          opens a old p runs state.1 state.2 state.3,
        );
      }

  -- with no own command
  pub monitor_kept : FitsParts (Monitor old) p → FitsParts (Monitor new) (tidied (view_held new).file.phase p)
  monitor_kept fits =
      subst (λ side. FitsParts (Monitor side) (tidied (view_held side).file.phase p))
      (is_side a p.area.sectors old new is) (monitor_with fits)

  running_with : (own : Own) (why : Purpose) → FitsParts (Running old own why) p
      → FitsParts (Running (with_view a p.area.sectors old) own why) p
  running_with own why fits =
      let w = view_after a p.area.sectors (view_held old) in
      let state = fits.state in
      let at_work = purpose_at_work why own (view_held old) p state.5 in
      let same = untidied a old p runs state.1 state.2 at_work in record {
        area = fits.area;
        leased = record { held = fits.leased.held; counted = fits.leased.counted };
        state = (
          state.0,
          subst (λ (q : Parts). FitsView w q.area.sectors) same (view_fits a old p runs state.1 state.2),
          subst (HasInHand w.file.phase w) same (in_hand a old p runs state.1 state.2),
          state.3,
          state.4,
          purpose_calmer why own (view_held old) w p (stays a old p runs state.1 state.2 at_work)
              (calms a old p runs state.1 state.2) state.5,
        );
      }

  -- with one
  pub running_kept : (own : Own) (why : Purpose) → FitsParts (Running old own why) p
      → FitsParts (Running new own why) (tidied (view_held new).file.phase p)
  running_kept own why fits =
      let state = fits.state in
      let at_work = purpose_at_work why own (view_held old) p state.5 in
      let same = untidied a old p runs state.1 state.2 at_work in
      subst (λ side. FitsParts (Running side own why) (tidied (view_held side).file.phase p))
      (is_side a p.area.sectors old new is)
      (subst (FitsParts (Running (with_view a p.area.sectors old) own why)) (sym same) (running_with own why fits))

  raising_with : (dummy : Dummy) (planned : Plan) → FitsParts (Raising old dummy planned) p
      → FitsParts (Raising (with_view a p.area.sectors old) dummy planned) p
  raising_with dummy planned fits =
      let w = view_after a p.area.sectors (view_held old) in
      let state = fits.state in
      let at_work = plan_at_work planned (view_held old).file.phase p state.7 in
      let same = untidied a old p runs state.1 state.2 at_work in record {
        area = fits.area;
        leased = record { held = fits.leased.held; counted = fits.leased.counted };
        state = (
          state.0,
          subst (λ (q : Parts). FitsView w q.area.sectors) same (view_fits a old p runs state.1 state.2),
          subst (HasInHand w.file.phase w) same (in_hand a old p runs state.1 state.2),
          calms a old p runs state.1 state.2 state.3,
          state.4,
          state.5,
          state.6,
          subst (λ phase. FitsPlan planned phase p) (sym (stays a old p runs state.1 state.2 at_work)) state.7,
        );
      }

  -- with a dummy read
  pub raising_kept : (dummy : Dummy) (planned : Plan) → FitsParts (Raising old dummy planned) p
      → FitsParts (Raising new dummy planned) (tidied (view_held new).file.phase p)
  raising_kept dummy planned fits =
      let state = fits.state in
      let at_work = plan_at_work planned (view_held old).file.phase p state.7 in
      let same = untidied a old p runs state.1 state.2 at_work in
      subst (λ side. FitsParts (Raising side dummy planned) (tidied (view_held side).file.phase p))
      (is_side a p.area.sectors old new is)
      (subst (FitsParts (Raising (with_view a p.area.sectors old) dummy planned)) (sym same)
      (raising_with dummy planned fits))
