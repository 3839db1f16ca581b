-- The drive that is taken for a command, and the view that is to have it.
use Rattle.std.proofs.Common.{◌≡◌, ℕ, ◌≤◌, Bool, true, false, List, not, ◌||◌, refl, sym, ap, ◌∙◌, subst, arith}
use Rattle.ata_taskfile.specs.declared.Phase.{Phase}
use Rattle.ata_taskfile.specs.declared.Phase.TheVariants.{Reset, Idle, Busy, Ready}
use Rattle.ata_taskfile.specs.declared.Reg.TheVariants as reg
use Rattle.ata_taskfile.specs.declared.task_file.TaskFile.{TaskFile}
use Rattle.ata_taskfile.specs.declared.Access.{Access}
use Rattle.ata_taskfile.specs.Access.{accessed}
use Rattle.ata_taskfile.specs.TaskFile.{is_ignored, masks_line, selects_absent, takes_no_command}
use Rattle.ata_taskfile.specs.Data.{is_wanted}
use Rattle.ata_taskfile.specs.Device.{Device, after_read8}
use Rattle.ata_taskfile.specs.Lawful.{end_of, is_in_reset, is_just_taken, HasTwoBytes}
use Rattle.port_lease.specs.declared.guest_side.GuestSide.{GuestSide}
use Rattle.port_lease.specs.declared.monitor_side.MonitorSide.{MonitorSide}
use Rattle.port_lease.specs.declared.view.View.{View}
use Rattle.port_lease.specs.Free.{shows_rest}
use Rattle.port_lease.specs.Handover.{after_take}
use Rattle.plain_drive.specs.Alike.{block_matters, without_command}
use Rattle.plain_drive.specs.Plain.{Plain}
use Rattle.port_lease.specs.Seen.{bus_beside, bus_on_guest_side}
use Rattle.port_lease.specs.Sides.{has_own, view_held, view_kept}
use Rattle.port_lease.specs.View.{IsLawfulView, is_command}
use Rattle.port_lease.proofs.Resting.{taken_at_rest}
use Rattle.guest_view.specs.Fits.{FitsView}
use Rattle.monitor_state.specs.declared.state.State.TheVariants.{Guest, Monitor}
use Rattle.monitor_state.specs.declared.parts.Parts.{Parts}
use Rattle.monitor_state.specs.Drive.{IsResting, RestsIn}
use Rattle.monitor_state.specs.Fits.{Fits}
use Rattle.monitor_state.specs.Hand.{HasInHand}
use Rattle.monitor_state.specs.Seen.{Shows, is_refused_in}
use Rattle.monitor_access.proofs.Commands.{command_taken}

idle_where : (phase : Phase) (absent : Bool) → (takes_no_command phase || absent) ≡ false → phase ≡ Idle
idle_where Reset absent takes = cc
idle_where Idle absent takes = refl
idle_where (Busy order done) absent takes = cc
idle_where (Ready order done left) absent takes = cc

pub rests_idle : (f : TaskFile) → shows_rest f ≡ true → f.phase ≡ Idle
rests_idle f rests = idle_where f.phase (selects_absent f) (taken_at_rest f ∙ ap not rests)

-- the drive was at rest, and its interrupt was acknowledged
module _ (d e : Device) (v : View) (command : ℕ) (rests : shows_rest d.file ≡ true)
    (file : v.file ≡ record d.file { pending = false; command = command })
    (drive : e.file ≡ record d.file { pending = false }) where
  view_idle : v.file.phase ≡ Idle
  view_idle = ap (λ (f : TaskFile). f.phase) file ∙ rests_idle d.file rests

  drive_idle : e.file.phase ≡ Idle
  drive_idle = ap (λ (f : TaskFile). f.phase) drive ∙ rests_idle d.file rests

  view_fits : (n : ℕ) → IsLawfulView v → HasTwoBytes d.file → FitsView v n
  view_fits n lawful pairs = record {
    lawful = lawful;
    within = subst (λ phase. end_of phase ≤ n) (sym view_idle) (omega arith);
    ordered = λ fresh. let none = ap is_just_taken view_idle in absurd cc;
    served = ap is_wanted view_idle;
    pairs = subst HasTwoBytes (sym file) pairs;
  }

  drive_rests : IsResting v e
  drive_rests = record {
    rests = ap shows_rest drive ∙ rests;
    pending = ap (λ (f : TaskFile). f.pending) drive ∙ sym (ap (λ (f : TaskFile). f.pending) file);
    masked = λ pends. ap masks_line drive ∙ sym (ap masks_line file);
  }

-- the monitor's side fits as the guest's did
pub taken_fits : (old : GuestSide) (new : MonitorSide) (p : Parts) (d acknowledged e : Device) (command : ℕ)
    → shows_rest d.file ≡ true → HasTwoBytes d.file → acknowledged ≡ after_read8 reg.Status d
    → (view_held new).file ≡ record acknowledged.file { command = command } → e ≡ after_take acknowledged
    → has_own new ≡ false → IsLawfulView (view_held new) → Fits (Guest old) p d → Fits (Monitor new) p e
taken_fits old new p d acknowledged e command rests pairs is view taken alone lawful fits =
    let v = view_held new in
    let file : v.file ≡ record d.file { pending = false; command = command }
    = view ∙ ap (λ (d : Device). record d.file { command = command }) is in
    let drive : e.file ≡ record d.file { pending = false }
    = ap (λ (d : Device). d.file) taken ∙ ap (λ (d : Device). d.file) is in
    let idle = drive_idle d e v command rests file drive in record {
      parts = record {
        area = fits.parts.area;
        leased = record { held = fits.parts.leased.held; counted = fits.parts.leased.counted };
        state = (
          alone,
          view_fits d e v command rests file drive p.area.sectors lawful pairs,
          subst (λ phase. HasInHand phase v p) (sym (view_idle d e v command rests file drive)) fits.parts.state.0,
          record { opened = λ closed. let opened = fits.parts.state.1 in absurd cc },
        );
      };
      device = (
        subst (λ phase. RestsIn phase v e) (sym idle) (drive_rests d e v command rests file drive),
        λ resets. let none = ap is_in_reset idle in absurd cc,
      );
      sectors = ap (λ (d : Device). d.sectors) taken ∙ ap (λ (d : Device). d.sectors) is ∙ fits.sectors;
    }

-- a plain drive whose interrupt was acknowledged
abbrev pub calmed : Plain → Plain
calmed q = record q { device = record q.device { file = record q.device.file { pending = false } } }

-- the plain drive that the guest sees is, acknowledged, the one that it sees in the view then
pub taken_shown : (side : GuestSide) (new : MonitorSide) (p : Parts) (d e : Device) (command : ℕ) (memory : List ℕ)
    (q : Plain) → shows_rest d.file ≡ true
    → (view_held new).file ≡ record d.file { pending = false; command = command }
    → bus_beside (view_held new).bus e.bus ≡ bus_on_guest_side (view_kept side) d.bus
    → Shows (Guest side) p d memory q → Shows (Monitor new) p e memory (calmed q)
taken_shown side new p d e command memory q rests file bus shows =
    let idle : (view_held new).file.phase ≡ Idle = ap (λ (f : TaskFile). f.phase) file ∙ rests_idle d.file rests in
    record {
      file = ap (λ (f : TaskFile). record f { pending = false }) shows.file ∙ sym (ap without_command file);
      bus = shows.bus ∙ sym bus;
      block = λ matters. let none = ap block_matters idle in absurd cc;
      sectors = shows.sectors;
      memory_is = shows.memory_is;
      served = ap (λ phase. is_refused_in phase p) idle;
    }

-- a command is taken alike where the interrupt was acknowledged before
pub taken_alike : (a : Access) (q : Plain) (f : TaskFile) → is_command a ≡ true → shows_rest f ≡ true
    → without_command q.device.file ≡ without_command f → accessed a (calmed q).device ≡ accessed a q.device
taken_alike a q f is rests same =
    sym (command_taken a q.device.file q.device.file.command q.device.bus q.device is
    (ap (λ (h : TaskFile). is_ignored reg.Status h) same ∙ taken_at_rest f ∙ ap not rests))
