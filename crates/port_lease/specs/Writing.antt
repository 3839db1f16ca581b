-- What a drive at rest takes.
use Rattle.std.specs.Prelude.{◌≡◌, ℕ, Bool, true, false, not, ◌&&◌, if◌then◌else◌, bit_and}
use Rattle.ata_taskfile.specs.declared.Reg.{Reg}
use Rattle.ata_taskfile.specs.declared.Reg.TheVariants as reg
use Rattle.ata_taskfile.specs.declared.Phase.TheVariants.{Idle}
use Rattle.ata_taskfile.specs.declared.task_file.TaskFile.{TaskFile}
use Rattle.ata_taskfile.specs.declared.bus_master.Bus.{Bus}
use Rattle.ata_taskfile.specs.declared.registers.TheConstants.{SRST, CONTROL_BITS, DEV}
use Rattle.ata_taskfile.specs.TaskFile.{has_bit, is_at_work, selects_absent, hob_cleared, stored}
use Rattle.ata_taskfile.specs.Bus.{walk_stopped, walk_begun}
use Rattle.ata_taskfile.specs.Device.{Device}

-- a register of the command block that isn't Command
abbrev pub is_plain_register : Reg → Bool
is_plain_register reg.Error = true
is_plain_register reg.Count = true
is_plain_register reg.Low = true
is_plain_register reg.Mid = true
is_plain_register reg.High = true
is_plain_register reg.Device = true
is_plain_register reg.Status = false
is_plain_register reg.Alternate = false
is_plain_register reg.BusCommand = false
is_plain_register reg.BusStatus = false

-- the drive after a write of a register of the command block other than Command; in Reset and Busy it
-- is ignored (ATA/ATAPI-6, BSY bit)
abbrev pub plainly_written : Reg → ℕ → Device → Device
plainly_written r v d = if is_at_work d.file.phase then d else record d { file = stored r v d.file }

-- the drive after it was found out whether it is at work: with DEV at 1 by writes, which make HOB 0
-- where they are taken
abbrev pub asked : Device → Device
asked d =
    if selects_absent d.file && not (is_at_work d.file.phase)
    then record d { file = hob_cleared d.file } else d

-- a drive without a command, without an interrupt, and with HOB at 0, so that no write to the command
-- block changes Device Control; 7Fh is all bits but HOB
pub record IsAtRest (f : TaskFile) : Type 0 where
  pub idle : f.phase ≡ Idle
  pub unpended : f.pending ≡ false
  pub hob : bit_and f.control 127 ≡ f.control

-- registers with the bytes of others in all that a command reads
abbrev pub with_registers : TaskFile → TaskFile → TaskFile
with_registers g f = record f {
  features = g.features;
  count = g.count;
  low = g.low;
  mid = g.mid;
  high = g.high;
  device = g.device;
}

-- a bus master stopped, with the direction and the pointer of another
abbrev pub bus_put : Bus → Bus → Bus
bus_put g b = record (walk_stopped b) { inward = g.inward; pointer = g.pointer }

-- a bus master stopped, with the direction and the pointer of another, and then started
abbrev pub bus_started : Bus → Bus → Bus
bus_started g b = walk_begun (bus_put g b)

-- registers that may be given with a command, as a lawful view has them where nothing of its command is done
pub record MayBeGiven (f : TaskFile) : Type 0 where
  pub kept : bit_and f.control CONTROL_BITS ≡ f.control
  pub unheld : has_bit SRST f.control ≡ false
  pub no_error : f.error ≡ 0
  pub not_failed : f.failed ≡ false
  pub selected : has_bit DEV f.device ≡ false
  pub unpended : f.pending ≡ false
