-- A guest's access on the monitor's side keeps state, parts and drive fit.
use Rattle.std.proofs.Common.{◌≡◌, ℕ, ◌||◌, Bool, true, false, not, refl, sym, ap, ◌∙◌, subst}
use Rattle.std.specs.Prelude.{is_some}
use Rattle.std.proofs.lemmas.Bool.{true≢false}
use Rattle.ata_taskfile.specs.declared.Access.{Access}
use Rattle.ata_taskfile.specs.declared.Phase.{Phase}
use Rattle.ata_taskfile.specs.declared.Phase.TheVariants.{Reset, Idle, Busy, Ready}
use Rattle.ata_taskfile.specs.declared.task_file.TaskFile.{TaskFile}
use Rattle.ata_taskfile.specs.TaskFile.{is_at_work, masks_line, selects_absent}
use Rattle.ata_taskfile.specs.Device.{Device}
use Rattle.ata_taskfile.specs.Lawful.{is_in_reset}
use Rattle.fill_bitmap.specs.declared.area.Area.{Area}
use Rattle.fill_store.specs.Opening.{next_in_opening}
use Rattle.port_lease.specs.declared.view.View.{View}
use Rattle.port_lease.specs.declared.monitor_side.MonitorSide.{MonitorSide}
use Rattle.port_lease.specs.Free.{shows_rest}
use Rattle.port_lease.specs.Sides.{view_held}
use Rattle.own_pio.specs.declared.own.Own.{Own}
use Rattle.own_pio.specs.Own.{done_of, job_of}
use Rattle.dummy_read.specs.declared.dummy.Dummy.{Dummy}
use Rattle.dummy_read.specs.Dummy.{sector_of}
use Rattle.dummy_read.specs.Flight.{IsInFlight}
use Rattle.guest_view.specs.Drive.{drive_after}
use Rattle.guest_view.specs.View.{is_reset, view_after}
use Rattle.guest_view.specs.Fits.{FitsView}
use Rattle.guest_view.proofs.DrivesWork.{bus_alone, flies_on, runs_on, stays_calm, work_left}
use Rattle.guest_view.proofs.Masks.{same_masks, same_pending}
use Rattle.monitor_state.specs.declared.state.Purpose.{Purpose}
use Rattle.monitor_state.specs.declared.state.Plan.{Plan}
use Rattle.monitor_state.specs.declared.state.State.TheVariants.{Monitor, Running, Raising}
use Rattle.monitor_state.specs.declared.parts.Parts.{Parts}
use Rattle.monitor_state.specs.Pieces.{tidied}
use Rattle.monitor_state.specs.Drive.{IsResting, IsStarting, RestsIn}
use Rattle.monitor_state.specs.Fits.{Fits, FitsDevice}
use Rattle.monitor_state.specs.Accessed.{IsAccessed}
use Rattle.monitor_state.proofs.Accesses.{at_work_stays}
use Rattle.monitor_state.proofs.AfterAccess.{monitor_kept, raising_kept, running_kept}
use Rattle.monitor_state.proofs.Kept.{reset_at_work, same_area, same_opening}
use Rattle.monitor_state.proofs.Standing.{running_calm}

module _ (a : Access) (n : ℕ) (v : View) (d : Device) (runs : is_reset a ≡ false) where
  pended : (pends : Bool) → v.file.pending ≡ pends → (view_after a n v).file.pending ≡ true → v.file.pending ≡ true
  pended true is after = is
  pended false is after = absurd (true≢false (sym after ∙ stays_calm a n v is))

  still_resting : IsResting v d → IsResting (view_after a n v) (drive_after false v a d)
  still_resting rests = record {
    rests = ap shows_rest (work_left false v a d).file ∙ rests.rests;
    pending = same_pending false v a d n runs rests.pending;
    masked = λ after.
        let pends = pended v.file.pending refl after in
        same_masks false v a d n (ap (λ p. p || false) pends) runs (rests.masked pends);
  }

  still_starting : FitsView v n → IsStarting v d → IsStarting (view_after a n v) (drive_after false v a d)
  still_starting fits rests =
      let same : (drive_after false v a d).file ≡ d.file =
      ap (λ (d : Device). d.file) (bus_alone v a d rests.calm) in record {
        control = ap (λ (f : TaskFile). f.control) same ∙ rests.control;
        selected = ap selects_absent same ∙ rests.selected;
        pending = ap (λ (f : TaskFile). f.pending) same ∙ rests.pending;
        waits =
            ap is_in_reset (at_work_stays a n v fits runs (reset_at_work v.file.phase rests.waits)) ∙ rests.waits;
        calm = stays_calm a n v rests.calm;
      }

  still_rests : (phase : Phase) → FitsView v n → RestsIn phase v d
      → RestsIn phase (view_after a n v) (drive_after false v a d)
  still_rests Reset fits rests = still_starting fits rests
  still_rests Idle fits rests = still_resting rests
  still_rests (Busy order done) fits rests = rests
  still_rests (Ready order done left) fits rests = rests

  same_work : (waits : Bool) → (drive_after waits v a d).file.phase ≡ d.file.phase
  same_work waits = ap (λ (f : TaskFile). f.phase) (work_left waits v a d).file

  same_sectors : (waits : Bool) → (drive_after waits v a d).sectors ≡ d.sectors
  same_sectors waits = ap (λ (d : Device). d.sectors) (work_left waits v a d).others

module _ (a : Access) (old new : MonitorSide) (p : Parts) (d : Device) (runs : is_reset a ≡ false)
    (is : IsAccessed a p.area.sectors old new) where
  monitor_drive : Fits (Monitor old) p d
      → FitsDevice (Monitor new) (tidied (view_held new).file.phase p) (drive_after false (view_held old) a d)
  monitor_drive fits =
      let v = view_held old in
      let e = drive_after false (view_held old) a d in
      let state = fits.parts.state in
      let rests = still_rests a p.area.sectors v d runs d.file.phase state.1 fits.device.0 in (
        subst (λ (w : View). RestsIn e.file.phase w e) (sym is.view)
            (subst (λ phase. RestsIn phase (view_after a p.area.sectors v) e)
            (sym (same_work a p.area.sectors v d runs false)) rests),
        λ resets.
            ap (λ o. not (is_some (next_in_opening o))) (same_opening (view_held new).file.phase p)
            ∙ fits.device.1 (ap is_in_reset (sym (same_work a p.area.sectors v d runs false)) ∙ resets),
      )

  -- with no own command
  pub monitor_fits : Fits (Monitor old) p d
      → Fits (Monitor new) (tidied (view_held new).file.phase p) (drive_after false (view_held old) a d)
  monitor_fits fits = record {
    parts = monitor_kept a old new p runs is fits.parts;
    device = monitor_drive fits;
    sectors =
        same_sectors a p.area.sectors (view_held old) d runs false
        ∙ fits.sectors
        ∙ sym (ap (λ (area : Area). area.sectors) (same_area (view_held new).file.phase p));
  }

  -- with one
  pub running_fits : (own : Own) (why : Purpose) → Fits (Running old own why) p d
      → Fits (Running new own why) (tidied (view_held new).file.phase p) (drive_after false (view_held old) a d)
  running_fits own why fits = record {
    parts = running_kept a old new p runs is own why fits.parts;
    device = runs_on (job_of own) (done_of own) (view_held old) a d (running_calm old own why p fits.parts) fits.device;
    sectors =
        same_sectors a p.area.sectors (view_held old) d runs false
        ∙ fits.sectors
        ∙ sym (ap (λ (area : Area). area.sectors) (same_area (view_held new).file.phase p));
  }

  raising_drive : (dummy : Dummy) (planned : Plan) → Fits (Raising old dummy planned) p d
      → FitsDevice (Raising new dummy planned) (tidied (view_held new).file.phase p)
      (drive_after true (view_held old) a d)
  raising_drive dummy planned fits =
      let v = view_held old in
      let state = fits.parts.state in
      let live : IsInFlight (sector_of dummy) false d =
      subst (λ cancelled. IsInFlight (sector_of dummy) cancelled d) state.6 fits.device.0 in (
        subst (λ cancelled. IsInFlight (sector_of dummy) cancelled (drive_after true v a d)) (sym state.6)
            (flies_on (sector_of dummy) v a d state.3 live),
        same_masks true v a d p.area.sectors (ap (λ p. p || true) state.3) runs fits.device.1
            ∙ ap (λ (w : View). masks_line w.file) (sym is.view),
      )

  -- with a dummy read
  pub raising_fits : (dummy : Dummy) (planned : Plan) → Fits (Raising old dummy planned) p d
      → Fits (Raising new dummy planned) (tidied (view_held new).file.phase p)
      (drive_after true (view_held old) a d)
  raising_fits dummy planned fits = record {
    parts = raising_kept a old new p runs is dummy planned fits.parts;
    device = raising_drive dummy planned fits;
    sectors =
        same_sectors a p.area.sectors (view_held old) d runs true
        ∙ fits.sectors
        ∙ sym (ap (λ (area : Area). area.sectors) (same_area (view_held new).file.phase p));
  }

-- a dummy read that was at work still is
pub still_at_work : (a : Access) (side : MonitorSide) (d : Device) → is_at_work d.file.phase ≡ true
    → is_at_work (drive_after true (view_held side) a d).file.phase ≡ true
still_at_work a side d at_work =
    ap (λ (f : TaskFile). is_at_work f.phase) (work_left true (view_held side) a d).file ∙ at_work
