-- What an access leaves of an opening, and so of the sectors of a plain drive until it has ended.
use Rattle.std.proofs.Common.{◌≡◌, ℕ, false, List, Option, sym, ap, ◌∙◌, subst}
use Rattle.std.proofs.lemmas.Bool.{true≢false}
use Rattle.ata_taskfile.specs.declared.Access.{Access}
use Rattle.ata_taskfile.specs.declared.Phase.{Phase}
use Rattle.ata_taskfile.specs.Device.{Cell, Device}
use Rattle.ata_taskfile.specs.TaskFile.{status}
use Rattle.mon_pool.specs.Region.{Region}
use Rattle.port_lease.specs.declared.guest_side.GuestSide.{GuestSide}
use Rattle.port_lease.specs.declared.monitor_side.MonitorSide.{MonitorSide}
use Rattle.port_lease.specs.Sides.{view_held}
use Rattle.own_pio.specs.declared.job.OwnJob.{OwnJob}
use Rattle.own_pio.specs.declared.own.Own.{Own}
use Rattle.own_pio.specs.Kept.{IsDoneSoFar}
use Rattle.own_pio.specs.Own.{done_of, job_of}
use Rattle.dummy_read.specs.declared.dummy.Dummy.{Dummy}
use Rattle.fill_store.specs.OpeningCells.{Opens}
use Rattle.guest_view.specs.Drive.{LeavesWork, drive_after}
use Rattle.guest_view.proofs.DrivesWork.{work_left}
use Rattle.monitor_state.specs.declared.held.HeldPiece.{HeldPiece}
use Rattle.monitor_state.specs.declared.held.Hand.{Hand}
use Rattle.monitor_state.specs.declared.state.State.{State}
use Rattle.monitor_state.specs.declared.state.State.TheVariants.{Guest, Monitor, Running, Raising}
use Rattle.monitor_state.specs.declared.state.Plan.{Plan}
use Rattle.monitor_state.specs.declared.state.Purpose.{Purpose}
use Rattle.monitor_state.specs.declared.state.Purpose.TheVariants as purpose
use Rattle.monitor_state.specs.declared.parts.Parts.{Parts}
use Rattle.monitor_state.specs.Fits.{Fits, FitsState}
use Rattle.monitor_state.specs.Opening.{OpeningStays}
use Rattle.monitor_state.specs.Overlaid.{OpeningGoesOn, OpensOver, job_bytes}
use Rattle.monitor_state.specs.Pieces.{tidied}
use Rattle.monitor_state.proofs.OpeningLeft.{same_left, same_status}
use Rattle.monitor_access.specs.Parts.{KeepsOthers}
use Rattle.monitor_access.proofs.Viewed.{left_others}

-- a drive whose work was left, by what may have changed of it
work_same : (d e : Device) → LeavesWork d e
    → e ≡ record d {
      file = record d.file { control = e.file.control; pending = e.file.pending };
      bus = e.bus;
    }
work_same d e left = left.others ∙ ap (λ f. record d { file = f; bus = e.bus }) left.file

-- an own command has made as much of the sectors as before
pub still_done : (job : OwnJob) (done : ℕ) (bytes start : List ℕ) (origin : List Cell) (d e : Device) → LeavesWork d e
    → IsDoneSoFar job done bytes start origin d → IsDoneSoFar job done bytes start origin e
still_done job done bytes start origin d e left is =
    subst (IsDoneSoFar job done bytes start origin) (sym (work_same d e left)) record {
      cells = is.cells;
      given = is.given;
      block = is.block;
      bytes_are = is.bytes_are;
    }

-- parts of which nothing else changed
abbrev with_hand : Option HeldPiece → Hand → Region → Parts → Parts
with_hand held hand pool p = record p { held = held; hand = hand; pool = pool }

module _ (held : Option HeldPiece) (hand : Hand) (pool : Region) (p : Parts) (d e : Device)
    (left : LeavesWork d e) where
  abbrev q : Parts
  q = with_hand held hand pool p

  same_cells : e.cells ≡ d.cells
  same_cells = ap (λ (x : Device). x.cells) left.others

  still_resting : (disk : List (List ℕ)) (old new : MonitorSide) → OpensOver disk (Monitor old) p d
      → OpensOver disk (Monitor new) q e
  still_resting disk old new opens = subst (Opens disk p.opening p.bitmap) (sym same_cells) opens

  still_running : (why : Purpose) (disk : List (List ℕ)) (old new : MonitorSide) (own : Own)
      → OpensOver disk (Running old own why) p d → OpensOver disk (Running new own why) q e
  still_running purpose.Opening disk old new own opens = record {
    origin = opens.origin;
    start = opens.start;
    stood = opens.stood;
    whole = opens.whole;
    done = still_done (job_of own) (done_of own) (job_bytes (job_of own) p.sector) opens.start opens.origin d e left
        opens.done;
  }
  still_running (purpose.Piece first count lease) disk old new own opens =
      subst (Opens disk p.opening p.bitmap) (sym same_cells) opens

  still_opening : (s t : State) → ((disk : List (List ℕ)) → OpensOver disk s p d → OpensOver disk t q e)
      → OpeningGoesOn s p d t q e
  still_opening s t goes closed k plain has =
      let is = has.opens closed in record {
        opens = λ still. record {
          opens = goes k.disk is.opens;
          buffer = is.buffer;
          view = is.view;
          durable = is.durable;
        };
        overlaid = λ opened. absurd (true≢false (sym opened ∙ closed));
      }

-- the guest's side and a dummy read stand only once it has ended
pub guest_goes_on : (s t : State) (side : GuestSide) (p r : Parts) (d e : Device) → s ≡ Guest side → Fits s p d
    → OpeningGoesOn s p d t r e
guest_goes_on s t side p r d e is fits closed =
    let state = subst (λ s. FitsState s p) is fits.parts.state in absurd (true≢false (sym state.1 ∙ closed))

pub raising_goes_on : (s t : State) (side : MonitorSide) (dummy : Dummy) (planned : Plan) (p r : Parts) (d e : Device)
    → s ≡ Raising side dummy planned → Fits s p d → OpeningGoesOn s p d t r e
raising_goes_on s t side dummy planned p r d e is fits closed =
    let state = subst (λ s. FitsState s p) is fits.parts.state in absurd (true≢false (sym state.4 ∙ closed))

-- so that it stays as it was
pub guest_stays : (s t : State) (side : GuestSide) (p r : Parts) (d e : Device) → s ≡ Guest side → Fits s p d
    → OpeningStays s p d t r e
guest_stays s t side p r d e is fits closed =
    let state = subst (λ s. FitsState s p) is fits.parts.state in absurd (true≢false (sym state.1 ∙ closed))

pub raising_stays : (s t : State) (side : MonitorSide) (dummy : Dummy) (planned : Plan) (p r : Parts) (d e : Device)
    → s ≡ Raising side dummy planned → Fits s p d → OpeningStays s p d t r e
raising_stays s t side dummy planned p r d e is fits closed =
    let state = subst (λ s. FitsState s p) is fits.parts.state in absurd (true≢false (sym state.4 ∙ closed))

-- an access on the monitor's side leaves it, whatever else it lets go
module _ (a : Access) (phase : Phase) (old new : MonitorSide) (p r : Parts) (d e : Device)
    (parts : r ≡ tidied phase p) (drive : e ≡ drive_after false (view_held old) a d) where
  left : LeavesWork d e
  left = subst (LeavesWork d) (sym drive) (work_left false (view_held old) a d)

  others : KeepsOthers p r
  others = subst (KeepsOthers p) (sym parts) (left_others phase p)

  -- with no own command
  pub resting_goes_on : OpeningGoesOn (Monitor old) p d (Monitor new) r e
  resting_goes_on =
      subst (λ (r : Parts). OpeningGoesOn (Monitor old) p d (Monitor new) r e) (sym others)
      (still_opening r.held r.hand r.pool p d e left (Monitor old) (Monitor new)
      (λ disk. still_resting r.held r.hand r.pool p d e left disk old new))

  -- with one
  pub running_goes_on : (own : Own) (why : Purpose) → OpeningGoesOn (Running old own why) p d (Running new own why) r e
  running_goes_on own why =
      subst (λ (r : Parts). OpeningGoesOn (Running old own why) p d (Running new own why) r e) (sym others)
      (still_opening r.held r.hand r.pool p d e left (Running old own why) (Running new own why)
      (λ disk. still_running r.held r.hand r.pool p d e left why disk old new own))

  shows_as_before : status e.file ≡ status d.file
  shows_as_before = ap (λ (x : Device). status x.file) drive ∙ same_status false (view_held old) a d

  same_opening : r.opening ≡ p.opening
  same_opening = ap (λ (x : Parts). x.opening) others

  pub resting_stays : OpeningStays (Monitor old) p d (Monitor new) r e
  resting_stays closed = (same_left (Monitor new) p r d e same_opening shows_as_before, shows_as_before)

  pub running_stays : (own : Own) (why : Purpose) → OpeningStays (Running old own why) p d (Running new own why) r e
  running_stays own why closed =
      (same_left (Running new own why) p r d e same_opening shows_as_before, shows_as_before)
