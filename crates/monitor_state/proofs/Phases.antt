-- The phase of the view after an access that begins no reset.
use Rattle.std.proofs.Common.{◌≡◌, ℕ, true, false, arith}
use Rattle.ata_taskfile.specs.declared.Reg.{Reg}
use Rattle.ata_taskfile.specs.declared.Access.TheVariants as access
use Rattle.ata_taskfile.specs.declared.Phase.{Phase}
use Rattle.ata_taskfile.specs.declared.Phase.TheVariants.{Idle}
use Rattle.ata_taskfile.specs.declared.task_file.TaskFile.{TaskFile}
use Rattle.ata_taskfile.specs.TaskFile.{after_read}
use Rattle.ata_taskfile.specs.Data.{is_wanted, phase_after_write}
use Rattle.port_lease.specs.declared.view.View.{View}
use Rattle.guest_view.specs.View.{is_reset, takes_command, view_after}

-- a read of a register leaves the phase
pub read_stays : (r : Reg) (f : TaskFile) → (after_read r f).phase ≡ f.phase
read_stays r f = grind arith

-- so does a write, but for a reset or a command
pub write_stays : (r : Reg) (x n : ℕ) (v : View) → is_reset (access.Write8 r x) ≡ false
    → takes_command (access.Write8 r x) v.file ≡ false
    → (view_after (access.Write8 r x) n v).file.phase ≡ v.file.phase
write_stays r x n v runs other = grind arith

-- a word that no one wants changes nothing
pub unwanted_stays : (phase : Phase) → is_wanted phase ≡ false → phase_after_write phase ≡ phase
unwanted_stays phase served = grind arith

-- a command is taken in Idle alone
pub taken_in_idle : (r : Reg) (x : ℕ) (f : TaskFile) → takes_command (access.Write8 r x) f ≡ true → f.phase ≡ Idle
taken_in_idle r x f takes = grind arith
