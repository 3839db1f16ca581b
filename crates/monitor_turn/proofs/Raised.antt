-- A dummy read that was raised.
use Rattle.std.proofs.Common.{◌≡◌, ◌-◌, ◌<◌, [], ◌∷◌, true, false, Some, sym, ap, ◌∙◌, arith}
use Rattle.ata_taskfile.specs.declared.registers.TheConstants.{READ_SECTORS}
use Rattle.ata_taskfile.specs.declared.Phase.TheVariants.{Busy}
use Rattle.ata_taskfile.specs.TaskFile.{is_at_work, masks_line}
use Rattle.ata_taskfile.specs.Device.{Device}
use Rattle.fill_bitmap.specs.declared.area.Area.{Area}
use Rattle.fill_bitmap.specs.Area.{IsSuitable}
use Rattle.port_lease.specs.declared.monitor_side.MonitorSide.{MonitorSide}
use Rattle.port_lease.specs.Sides.{has_own, view_held}
use Rattle.own_pio.specs.Job.{job_order}
use Rattle.dummy_read.specs.declared.dummy.Dummy.{Dummy}
use Rattle.dummy_read.specs.Dummy.{is_cancelled, job_on, sector_of}
use Rattle.dummy_read.specs.Flight.{IsInFlight}
use Rattle.schedule_text.specs.declared.Item.TheVariants as item
use Rattle.monitor_state.specs.declared.state.State.TheVariants.{Monitor, Raising}
use Rattle.monitor_state.specs.declared.state.Plan.{Plan}
use Rattle.monitor_state.specs.declared.parts.Parts.{Parts}
use Rattle.monitor_state.specs.State.{is_opened}
use Rattle.monitor_state.specs.Fits.{Fits, FitsPlan}
use Rattle.monitor_state.proofs.Standing.{opened_free}
use Rattle.monitor_turn.specs.Turned.{HasTurned}
use Rattle.streaming.proofs.Untold.{never_both}
use Rattle.monitor_turn.proofs.Told.{free_idle, given_due, read_told, same_image}

-- the disk has a last sector, which a command of 28 bits names
pub some_sectors : (area : Area) → IsSuitable area → 0 < area.image → 0 < area.sectors
some_sectors area suitable image = grind (arith, suitable.large_enough, image)

pub raised : (side after : MonitorSide) (dummy : Dummy) (planned : Plan) (p : Parts) (d e : Device)
    → Fits (Monitor side) p d → is_opened p ≡ true → (view_held side).file.pending ≡ false
    → FitsPlan planned (view_held side).file.phase p → has_own after ≡ true → view_held after ≡ view_held side
    → sector_of dummy ≡ p.area.sectors - 1 → is_cancelled dummy ≡ false → IsInFlight (p.area.sectors - 1) false e
    → e.file.phase ≡ Busy (job_order (job_on (p.area.sectors - 1)) d.sectors) 0 → e.file.command ≡ READ_SECTORS
    → masks_line e.file ≡ masks_line (view_held side).file → e.sectors ≡ d.sectors
    → HasTurned p d (Raising after dummy planned) (Some (item.Command 32 (p.area.sectors - 1) 1)) p e
raised side after dummy planned p d e fits opened calm plans own view sector uncancelled flies at byte nien sectors =
    let state = fits.parts.state in
    let some : 0 < p.area.sectors = some_sectors p.area fits.parts.area.suitable fits.parts.area.image in
    let free = opened_free side p d fits.device opened calm in
    record {
      fits = record {
        parts = record {
          area = fits.parts.area;
          leased = fits.parts.leased;
          state = rw view (own, state.1, state.2, calm, opened, omega (arith, sector, some), uncancelled, plans);
        };
        device = (rw (sector, uncancelled) flies, rw view nien);
        sectors = sectors ∙ fits.sectors;
      };
      between = ap is_at_work at;
      commands = sym (given_due d.file e.file 32 (job_order (job_on (p.area.sectors - 1)) d.sectors)
          (free_idle d.file free) at byte
          ∙ ap (λ i. i ∷ []) (read_told (p.area.sectors - 1) 1 d.sectors (omega (arith, some, fits.sectors))));
      ready = never_both (is_opened p);
      may = _;
      image = same_image p;
    }
