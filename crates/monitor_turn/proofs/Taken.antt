-- A drive that the monitor has taken.
use Rattle.std.proofs.Common.{◌≡◌, ◌≤◌, ℕ, true, false, List, Option, refl, sym, ap, ◌∙◌, subst, arith}
use Rattle.ata_taskfile.specs.declared.Phase.TheVariants.{Idle}
use Rattle.ata_taskfile.specs.declared.task_file.TaskFile.{TaskFile}
use Rattle.ata_taskfile.specs.TaskFile.{masks_line}
use Rattle.ata_taskfile.specs.Data.{is_wanted}
use Rattle.ata_taskfile.specs.Device.{Device}
use Rattle.ata_taskfile.specs.Lawful.{end_of, is_in_reset, is_just_taken, HasTwoBytes}
use Rattle.plain_drive.specs.Alike.{block_matters}
use Rattle.plain_drive.specs.Plain.{Plain}
use Rattle.port_lease.specs.declared.guest_side.GuestSide.{GuestSide}
use Rattle.port_lease.specs.declared.monitor_side.MonitorSide.{MonitorSide}
use Rattle.port_lease.specs.Free.{is_free, shows_rest}
use Rattle.port_lease.specs.Handover.{after_take}
use Rattle.port_lease.specs.Seen.{IsSame, seen_on_guest_side, seen_on_monitor_side}
use Rattle.port_lease.specs.Sides.{has_own, view_held, view_kept}
use Rattle.schedule_text.specs.declared.Item.{Item}
use Rattle.monitor_state.specs.declared.state.State.{State}
use Rattle.port_lease.specs.View.{IsLawfulView}
use Rattle.monitor_state.specs.declared.state.State.TheVariants.{Guest, Monitor}
use Rattle.monitor_state.specs.declared.parts.Parts.{Parts}
use Rattle.monitor_state.specs.Drive.{RestsIn}
use Rattle.monitor_state.specs.Fits.{Fits}
use Rattle.monitor_state.specs.GoesOn.{GoesOn}
use Rattle.monitor_state.specs.Hand.{HasInHand}
use Rattle.monitor_state.specs.Seen.{Shows, is_refused_in}
use Rattle.monitor_state.specs.Sourced.{HasSources, KeepsSources}
use Rattle.streaming.specs.Lines.{Line}
use Rattle.streaming.specs.Sources.{has_read}
use Rattle.monitor_state.proofs.Shown.{same_seen}
use Rattle.monitor_turn.proofs.Told.{free_idle}

free_rests : (f : TaskFile) → is_free f ≡ true → shows_rest f ≡ true
free_rests f free = grind arith

-- the monitor's side fits as the guest's did
pub taken_fits : (old : GuestSide) (new : MonitorSide) (p : Parts) (d : Device) → Fits (Guest old) p d
    → is_free d.file ≡ true → HasTwoBytes d.file
    → (view_held new).file ≡ record d.file { command = (view_kept old).file.command }
    → has_own new ≡ false → IsLawfulView (view_held new) → Fits (Monitor new) p (after_take d)
taken_fits old new p d fits free pairs file alone lawful =
    let v = view_held new in
    let idle = free_idle d.file free in
    let view_idle : v.file.phase ≡ Idle = ap (λ (f : TaskFile). f.phase) file ∙ idle in
    record {
      parts = record {
        area = fits.parts.area;
        leased = fits.parts.leased;
        state = (
          alone,
          record {
            lawful = lawful;
            within = subst (λ phase. end_of phase ≤ p.area.sectors) (sym view_idle) (omega arith);
            ordered = λ fresh. let none = ap is_just_taken view_idle in absurd cc;
            served = ap is_wanted view_idle;
            pairs = subst HasTwoBytes (sym file) pairs;
          },
          subst (λ phase. HasInHand phase v p) (sym view_idle) fits.parts.state.0,
          record { opened = λ closed. let opened = fits.parts.state.1 in absurd cc },
        );
      };
      device = (
        subst (λ phase. RestsIn phase v (after_take d)) (sym idle) record {
          rests = free_rests d.file free;
          pending = sym (ap (λ (f : TaskFile). f.pending) file);
          masked = λ pends. sym (ap masks_line file);
        },
        λ resets. let none = ap is_in_reset idle in absurd cc,
      );
      sectors = fits.sectors;
    }

-- what the guest sees on its side it sees on the monitor's
taken_shows : (old : GuestSide) (new : MonitorSide) (p : Parts) (d took : Device) (memory : List ℕ) (q : Plain)
    → is_free d.file ≡ true → (view_held new).file ≡ record d.file { command = (view_kept old).file.command }
    → IsSame (seen_on_guest_side (view_kept old) d) (seen_on_monitor_side (view_held new) took)
    → Shows (Guest old) p d memory q → Shows (Monitor new) p took memory q
taken_shows old new p d took memory q free file same shows =
    let idle = ap (λ (f : TaskFile). f.phase) file ∙ free_idle d.file free in
    same_seen (Guest old) (Monitor new) p p d took memory q same.file same.bus
    (λ matters. let no = ap block_matters idle in absurd cc) refl (ap (λ phase. is_refused_in phase p) idle) shows

-- and it goes on from there as from its own
pub taken_goes_on : (old : GuestSide) (new : MonitorSide) (p r : Parts) (d took e : Device) (memory left : List ℕ)
    (items : List Item) (t : State) → is_free d.file ≡ true
    → (view_held new).file ≡ record d.file { command = (view_kept old).file.command }
    → IsSame (seen_on_guest_side (view_kept old) d) (seen_on_monitor_side (view_held new) took)
    → GoesOn (Monitor new) p took memory items t r e left → GoesOn (Guest old) p d memory items t r e left
taken_goes_on old new p r d took e memory left items t free file same goes = λ q shows agrees.
    goes q (taken_shows old new p d took memory q free file same shows)
    record { drives = λ no. absurd cc; held = agrees.held; came = agrees.came }

-- and so do the sources of what it is given
pub taken_sources : (old : GuestSide) (new : MonitorSide) (p r : Parts) (d took e : Device) (told : Option Item)
    (t : State) → is_free d.file ≡ true
    → (view_held new).file ≡ record d.file { command = (view_kept old).file.command }
    → IsSame (seen_on_guest_side (view_kept old) d) (seen_on_monitor_side (view_held new) took)
    → KeepsSources (Monitor new) p took told t r e → KeepsSources (Guest old) p d told t r e
taken_sources old new p r d took e told t free file same keeps =
    let taken : (lines : List Line) → HasSources (Guest old) p d lines → HasSources (Monitor new) p took lines =
    λ lines has. record { held = has.held; demand = has.demand; background = has.background; read = tt } in
    record {
      loads = λ lines memory q shows has.
          keeps.loads lines memory q (taken_shows old new p d took memory q free file same shows) (taken lines has);
      keeps = λ lines told_in has. keeps.keeps lines told_in (taken lines has);
      spares = λ read. absurd (let no = ap has_read (free_idle d.file free) in cc);
    }
