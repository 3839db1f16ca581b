-- A drive that shows that it rests takes a command.
use Rattle.std.proofs.Common.{◌≡◌, Bool, true, false, not, ◌&&◌, ◌||◌, if◌then◌else◌, refl}
use Rattle.ata_taskfile.specs.declared.Reg.TheVariants as reg
use Rattle.ata_taskfile.specs.declared.Phase.{Phase}
use Rattle.ata_taskfile.specs.declared.Phase.TheVariants.{Reset, Idle, Busy, Ready}
use Rattle.ata_taskfile.specs.declared.task_file.TaskFile.{TaskFile}
use Rattle.ata_taskfile.specs.declared.registers.TheConstants.{BSY, DRQ}
use Rattle.ata_taskfile.specs.TaskFile.{has_bit, status_in, takes_no_command, selects_absent, is_ignored}
use Rattle.port_lease.specs.Free.{shows_rest}

taken : (phase : Phase) (failed absent : Bool)
    → (takes_no_command phase || absent)
    ≡ not (let shown = if absent then 0 else status_in phase failed in
    not (has_bit BSY shown) && not (has_bit DRQ shown) && not absent)
taken Reset failed true = refl
taken Reset failed false = refl
taken (Busy order done) failed true = refl
taken (Busy order done) failed false = refl
taken (Ready order done left) failed true = refl
taken (Ready order done left) failed false = refl
taken Idle failed true = refl
taken Idle true false = refl
taken Idle false false = refl

pub taken_at_rest : (f : TaskFile) → is_ignored reg.Status f ≡ not (shows_rest f)
taken_at_rest f = taken f.phase f.failed (selects_absent f)
