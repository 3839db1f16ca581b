-- Once a dummy read has ended, and the view made the step that was planned, monitor and drive fit.
use Rattle.std.proofs.Common.{◌≡◌, true, false, sym, ap, ◌∙◌, subst}
use Rattle.std.proofs.lemmas.Bool.{true≢false}
use Rattle.ata_taskfile.specs.TaskFile.{masks_line}
use Rattle.ata_taskfile.specs.Device.{Device}
use Rattle.port_lease.specs.declared.view.View.{View}
use Rattle.port_lease.specs.declared.monitor_side.MonitorSide.{MonitorSide}
use Rattle.port_lease.specs.Sides.{has_own, view_held}
use Rattle.dummy_read.specs.declared.dummy.Dummy.{Dummy}
use Rattle.dummy_read.specs.Dummy.{is_cancelled}
use Rattle.dummy_read.specs.Flight.{ended}
use Rattle.guest_view.specs.Fits.{FitsView}
use Rattle.monitor_state.specs.declared.held.Hand.{Hand}
use Rattle.monitor_state.specs.declared.parts.Parts.{Parts}
use Rattle.monitor_state.specs.declared.state.State.TheVariants.{Monitor, Raising}
use Rattle.monitor_state.specs.declared.state.Plan.{Plan}
use Rattle.monitor_state.specs.Hand.{HasInHand}
use Rattle.monitor_state.specs.Fits.{Fits, FitsArea, FitsParts}
use Rattle.monitor_state.proofs.Raised.{raised_fits}
use Rattle.monitor_events.specs.Stepping.{hand_after, parts_planned, view_planned}
use Rattle.monitor_events.proofs.Planned.{hand_planned, shown_planned}

-- what is in hand is no part of what fits the area
area_in_hand : (hand : Hand) (p : Parts) → FitsArea p → FitsArea (record p { hand = hand })
area_in_hand hand p fits = record {
  suitable = fits.suitable;
  image = fits.image;
  bitmap = fits.bitmap;
  nested = fits.nested;
  opening = fits.opening;
  run = fits.run;
  client = fits.client;
  room = fits.room;
  buffers = fits.buffers;
  background = fits.background;
}

module _ (side new : MonitorSide) (dummy : Dummy) (planned : Plan) (p : Parts) (d : Device)
    (fits : Fits (Raising side dummy planned) p d) (own : has_own new ≡ false)
    (view : view_held new ≡ view_planned planned (view_held side))
    (good : FitsView (view_held new) p.area.sectors) where
  in_hand : HasInHand (view_held new).file.phase (view_held new) (parts_planned planned p)
  in_hand = subst (λ (w : View). HasInHand w.file.phase w (parts_planned planned p)) (sym view)
      (hand_planned planned (view_held side).file.phase (view_held side) p fits.parts.state.7 fits.parts.state.2)

  parts_fit : FitsParts (Monitor new) (parts_planned planned p)
  parts_fit = record {
    area = area_in_hand (hand_after planned p.hand) p fits.parts.area;
    leased = record { held = fits.parts.leased.held; counted = fits.parts.leased.counted };
    state = (
      own,
      good,
      in_hand,
      record { opened = λ closed. absurd (true≢false (sym fits.parts.state.4 ∙ closed)) },
    );
  }

  pends_after : (view_held new).file.pending ≡ true
  pends_after = ap (λ (w : View). w.file.pending) view
      ∙ (shown_planned planned (view_held side).file.phase (view_held side) p fits.parts.state.7).0

  masks_after : masks_line (view_held new).file ≡ masks_line (view_held side).file
  masks_after = ap (λ (w : View). masks_line w.file) view
      ∙ (shown_planned planned (view_held side).file.phase (view_held side) p fits.parts.state.7).1

  -- monitor and drive fit in the state that the calls leave
  pub fits_once_ended : (after : Parts) (e : Device) → after ≡ parts_planned planned p
      → e ≡ ended (is_cancelled dummy) d → Fits (Monitor new) after e
  fits_once_ended after e parts device =
      let same : e ≡ ended false d = device ∙ ap (λ cancelled. ended cancelled d) fits.parts.state.6 in
      subst (λ parts. Fits (Monitor new) parts e) (sym parts) (
      subst (Fits (Monitor new) (parts_planned planned p)) (sym same) record {
        parts = parts_fit;
        device = raised_fits side new dummy planned p (parts_planned planned p) d fits.device pends_after masks_after;
        sectors = fits.sectors;
      }
      )
