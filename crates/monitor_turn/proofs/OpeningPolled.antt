-- An own command of the opening that was polled.
use Rattle.std.proofs.Common.{◌≡◌, ◌<◌, ℕ, [], Bool, true, false, not, ◌&&◌, if◌then◌else◌, List, Option, Some, None, refl, sym, ap, ◌∙◌, subst}
use Rattle.std.specs.Prelude.{is_some}
use Rattle.ata_taskfile.specs.declared.Phase.{Phase}
use Rattle.ata_taskfile.specs.declared.Phase.TheVariants.{Reset, Idle, Busy, Ready}
use Rattle.ata_taskfile.specs.Lawful.{is_in_reset, is_just_taken}
use Rattle.ata_taskfile.specs.Device.{Device}
use Rattle.fill_bitmap.specs.Bitmap.{Sets}
use Rattle.fill_store.specs.Opening.{OpeningState, next_in_opening}
use Rattle.port_lease.specs.declared.view.View.{View}
use Rattle.port_lease.specs.declared.monitor_side.MonitorSide.{MonitorSide}
use Rattle.port_lease.specs.Free.{is_free}
use Rattle.port_lease.specs.Sides.{has_own, view_held}
use Rattle.own_pio.specs.declared.job.OwnJob.{OwnJob}
use Rattle.own_pio.specs.declared.own.Own.{Own}
use Rattle.own_pio.specs.Job.{IsFit}
use Rattle.own_pio.specs.Own.{done_of, job_of, polls_left}
use Rattle.own_pio.specs.Running.{IsRunning}
use Rattle.schedule_text.specs.declared.Item.{Item}
use Rattle.schedule_text.specs.declared.Item.TheVariants as item
use Rattle.monitor_state.specs.declared.state.State.TheVariants.{Monitor, Running}
use Rattle.monitor_state.specs.declared.state.Purpose.TheVariants as purpose
use Rattle.monitor_state.specs.declared.parts.Parts.{Parts}
use Rattle.monitor_state.specs.State.{is_opened}
use Rattle.monitor_state.specs.Hand.{HasInHand}
use Rattle.monitor_state.specs.Fits.{Fits, FitsArea}
use Rattle.streaming.specs.Told.{MayTell, command_told, tells_ready}
use Rattle.monitor_turn.specs.Turned.{HasTurned}
use Rattle.monitor_turn.proofs.Begun.{reset_calm}
use Rattle.monitor_turn.proofs.Piece.{free_fits, none_taken_free}
use Rattle.streaming.proofs.Untold.{never_both, none_due}

-- parts whose opening stands here, with this bitmap and these bytes of a sector
abbrev pub with_opening : OpeningState → Sets → List ℕ → Parts → Parts
with_opening o sets sector p = record p { opening = o; bitmap = sets; sector = sector }

-- in the view's reset nothing is in hand, wherever the opening stands
reset_over : (phase : Phase) (v : View) (o : OpeningState) (sets : Sets) (sector : List ℕ) (p : Parts)
    → is_in_reset phase ≡ true → HasInHand phase v p → HasInHand phase v (with_opening o sets sector p)
reset_over Reset v o sets sector p resets has = (
  record { redirect = has.0.redirect; failed = has.0.failed; held = has.0.held; asked = has.0.asked },
  has.1,
)
reset_over Idle v o sets sector p resets has = absurd cc
reset_over (Busy order done) v o sets sector p resets has = absurd cc
reset_over (Ready order done left) v o sets sector p resets has = absurd cc

-- the area's parts stay so over other bytes of a sector
pub area_over_sector : (sector : List ℕ) (p : Parts) → FitsArea p → FitsArea (record p { sector = sector })
area_over_sector sector p area = record {
  suitable = area.suitable;
  image = area.image;
  bitmap = area.bitmap;
  nested = area.nested;
  opening = area.opening;
  run = area.run;
  client = area.client;
  room = area.room;
  buffers = area.buffers;
  background = area.background;
}

-- while a job of it is next opening hasn't ended
pub still_closed : (next : Option OwnJob) (job : OwnJob) → next ≡ Some job → not (is_some next) ≡ false
still_closed next job is = ap (λ (next : Option OwnJob). not (is_some next)) is

-- the command goes on
pub opening_goes : (side after : MonitorSide) (own left : Own) (sector : List ℕ) (p : Parts) (d e : Device)
    → Fits (Running side own purpose.Opening) p d → has_own after ≡ true → view_held after ≡ view_held side
    → job_of left ≡ job_of own → 0 < polls_left left → IsRunning (job_of left) (done_of left) e
    → e.sectors ≡ d.sectors → (is_just_taken e.file.phase ≡ true → is_just_taken d.file.phase ≡ true)
    → HasTurned p d (Running after left purpose.Opening) None (record p { sector = sector }) e
opening_goes side after own left sector p d e fits own_stands view job some runs sectors taken =
    let state = fits.parts.state in
    let v = view_held side in
    record {
      fits = record {
        parts = record {
          area = area_over_sector sector p fits.parts.area;
          leased = record { held = fits.parts.leased.held; counted = fits.parts.leased.counted };
          state = rw view (
            own_stands,
            state.1,
            reset_over v.file.phase v p.opening p.bitmap sector p state.5.1 state.2,
            subst IsFit (sym job) state.3,
            some,
            (state.5.0 ∙ ap Some (sym job), state.5.1),
          );
        };
        device = runs;
        sectors = sectors ∙ fits.sectors;
      };
      between = _;
      commands = none_due d.file e.file taken;
      ready = never_both (is_opened p);
      may = _;
      image = record { area = refl; id = refl; opening = λ _. refl; bitmap = λ _. refl };
    }

-- that opening has ended is told, and nothing else
abbrev ready_told : Bool → Option Item
ready_told opened = if opened then Some item.Ready else None

told_ready : (opened : Bool) → (command_told (ready_told opened) ≡ [])
    × (tells_ready (ready_told opened) ≡ opened) × MayTell (ready_told opened)
told_ready true = (refl, refl, _)
told_ready false = (refl, refl, _)

-- the command has ended, well or not
pub opening_polled : (side after : MonitorSide) (own : Own) (o : OpeningState) (sets : Sets) (sector : List ℕ)
    (told : Option Item) (p : Parts) (d e : Device) → let q = with_opening o sets sector p in
    Fits (Running side own purpose.Opening) p d → FitsArea q → has_own after ≡ false
    → view_held after ≡ view_held side → is_free e.file ≡ true → e.sectors ≡ d.sectors
    → told ≡ (if is_opened q then Some item.Ready else None) → HasTurned p d (Monitor after) told q e
opening_polled side after own o sets sector told p d e fits area alone view free sectors told_is =
    let state = fits.parts.state in
    let v = view_held side in
    let q = with_opening o sets sector p in
    let closed : is_opened p ≡ false = still_closed (next_in_opening p.opening) (job_of own) state.5.0 in
    let calm = reset_calm v.file.phase v p state.5.1 state.2 in
    let tells = told_ready (is_opened q) in
    record {
      fits = record {
        parts = record {
          area = area;
          leased = record { held = fits.parts.leased.held; counted = fits.parts.leased.counted };
          state = rw view (
            alone,
            state.1,
            reset_over v.file.phase v o sets sector p state.5.1 state.2,
            record { opened = λ _. state.5.1 },
          );
        };
        device = free_fits after q e free (rw view calm);
        sectors = sectors ∙ fits.sectors;
      };
      between = _;
      commands = ap command_told told_is ∙ tells.0 ∙ none_due d.file e.file (none_taken_free d e free);
      ready =
          ap tells_ready told_is ∙ tells.1
          ∙ ap (λ (before : Bool). not before && is_opened q) (sym closed);
      may = subst MayTell (sym told_is) tells.2;
      image = record {
        area = refl;
        id = refl;
        opening = λ opened. absurd (let no = closed in cc);
        bitmap = λ opened. absurd (let no = closed in cc);
      };
    }
