-- The drive once a dummy read's interrupt is taken.
use Rattle.std.proofs.Common.{◌≡◌, ◌&&◌, Bool, true, false, not, if◌then◌else◌, refl, sym, ap, ◌∙◌}
use Rattle.ata_taskfile.specs.declared.registers.TheConstants.{BSY, DRQ, DEV}
use Rattle.ata_taskfile.specs.declared.Phase.TheVariants.{Idle}
use Rattle.ata_taskfile.specs.TaskFile.{has_bit, masks_line, status_in}
use Rattle.ata_taskfile.specs.Device.{Device}
use Rattle.port_lease.specs.declared.monitor_side.MonitorSide.{MonitorSide}
use Rattle.port_lease.specs.Free.{shows_rest}
use Rattle.port_lease.specs.Sides.{view_held}
use Rattle.dummy_read.specs.declared.dummy.Dummy.{Dummy}
use Rattle.dummy_read.specs.Flight.{ended}
use Rattle.monitor_state.specs.declared.state.Plan.{Plan}
use Rattle.monitor_state.specs.declared.state.State.TheVariants.{Monitor, Raising}
use Rattle.monitor_state.specs.declared.parts.Parts.{Parts}
use Rattle.monitor_state.specs.Fits.{FitsDevice}

-- what the device selected and the mark of a failure say of a drive without a command
abbrev shown_in : Bool → Bool → Bool
shown_in absent failed =
    not (has_bit BSY (if absent then 0 else status_in Idle failed))
    && not (has_bit DRQ (if absent then 0 else status_in Idle failed))
    && not absent

rest_in : (failed : Bool) → shown_in false failed ≡ true
rest_in true = refl
rest_in false = refl

rests : (d : Device) → has_bit DEV d.file.device ≡ false → shows_rest (ended false d).file ≡ true
rests d selected = ap (λ absent. shown_in absent d.file.failed) selected ∙ rest_in d.file.failed

-- a view whose interrupt pends, masked as it was, fits the drive whose interrupt came
pub raised_fits : (side new : MonitorSide) (dummy : Dummy) (planned : Plan) (p q : Parts) (d : Device)
    → FitsDevice (Raising side dummy planned) p d → (view_held new).file.pending ≡ true
    → masks_line (view_held new).file ≡ masks_line (view_held side).file → FitsDevice (Monitor new) q (ended false d)
raised_fits side new dummy planned p q d fits pends masks = (
  record {
    rests = rests d fits.0.selected;
    pending = sym pends;
    masked = λ _. fits.1 ∙ sym masks;
  },
  λ resets. absurd cc,
)
