-- A whole device, and what each access to it answers and changes.
use Rattle.std.specs.Prelude.{ℕ, Bool, false, if◌then◌else◌, is_some, List, []}
use Rattle.ata_taskfile.specs.declared.Reg.{Reg}
use Rattle.ata_taskfile.specs.declared.Taken.TheVariants.{Good, Bad}
use Rattle.ata_taskfile.specs.declared.Phase.{Phase}
use Rattle.ata_taskfile.specs.declared.Phase.TheVariants.{Reset, Idle, Busy, Ready}
use Rattle.ata_taskfile.specs.declared.Wrote.{Wrote}
use Rattle.ata_taskfile.specs.declared.Wrote.TheVariants.{Stored, Ignored, Command, ResetBegun}
use Rattle.ata_taskfile.specs.declared.task_file.TaskFile.{TaskFile}
use Rattle.ata_taskfile.specs.declared.bus_master.Bus.{Bus}
use Rattle.ata_taskfile.specs.TaskFile.{is_of_bus, line, value, after_read, after_write, wrote, power_on}
use Rattle.ata_taskfile.specs.Bus.{idle_bus, bus_value, bus_written, pointer_written, walk_ended, raised}
use Rattle.ata_taskfile.specs.Data.{moves_by_bus, word_in, phase_after_read, phase_after_write, block_after_write}
use Rattle.ata_taskfile.specs.Order.{inputs, order_of, taken}

-- a sector: its durable value, and the values written since, the newest first (own: the disk model)
pub record Cell : Type 0 where
  pub durable : List ℕ
  pub written : List (List ℕ)

-- a device: registers, bus master, the words of the block in transfer, a cell for each sector, and the sectors
-- that it says it has
pub record Device : Type 0 where
  pub file : TaskFile
  pub bus : Bus
  pub block : List ℕ
  pub cells : List Cell
  pub sectors : ℕ

-- a device at power-on over these cells, which has the sectors that it says (own)
abbrev pub powered_on : List Cell → ℕ → Device
powered_on cells sectors = record {
  file = power_on;
  bus = idle_bus;
  block = [];
  cells = cells;
  sectors = sectors;
}

-- the device with other registers; a rise of the line shows in the bus master
abbrev pub with_file : TaskFile → Device → Device
with_file f d = record d { file = f; bus = raised (line d.file) (line f) d.bus }

-- the device with another bus master
abbrev pub with_bus : Bus → Device → Device
with_bus b d = record d { bus = b }

-- what a read of a register answers (ATA/ATAPI-6, I/O registers; Bus Master IDE 1.0, registers)
abbrev pub byte_read : Reg → Device → ℕ
byte_read r d = if is_of_bus r then bus_value r d.bus else value r d.file

-- after a read of a register
abbrev pub after_read8 : Reg → Device → Device
after_read8 r d = with_file (after_read r d.file) d

-- a command in hand whose sectors the bus master moves; a refused one moves none (own)
abbrev pub is_moving : Phase → Bool
is_moving Reset = false
is_moving Idle = false
is_moving (Busy (Good order) done) = moves_by_bus order.form
is_moving (Busy (Bad reason) done) = false
is_moving (Ready taken done left) = false

-- the bus master when a reset ends what is in hand: the walk of such a command ends (own)
abbrev pub bus_in_reset : Phase → Bus → Bus
bus_in_reset phase b = if is_moving phase then walk_ended b else b

-- the registers with a command in hand from now on, whose order is that of its byte
abbrev pub in_hand : ℕ → ℕ → TaskFile → TaskFile
in_hand byte sectors f = record f { phase = Busy (taken (order_of byte (inputs f) sectors)) 0 }

-- the device after a write that did this and left these registers
abbrev pub after_wrote : Wrote → TaskFile → Device → Device
after_wrote Stored f d = with_file f d
after_wrote Ignored f d = d
after_wrote (Command byte) f d = with_file (in_hand byte d.sectors f) d
after_wrote ResetBegun f d = with_file f (with_bus (bus_in_reset d.file.phase d.bus) d)

-- after a write to a register (ATA/ATAPI-6, I/O registers; Bus Master IDE 1.0, registers)
abbrev pub after_write8 : Reg → ℕ → Device → Device
after_write8 r v d = if is_of_bus r
    then with_bus (bus_written r v d.bus) d
    else after_wrote (wrote r v d.file) (after_write r v d.file) d

-- what a read of Data answers
abbrev pub word_read : Device → ℕ
word_read d = word_in d.file.phase d.block

-- the device with its command in another phase
abbrev pub with_phase : Phase → Device → Device
with_phase phase d = record d { file = record d.file { phase = phase } }

-- after a read of Data (ATA/ATAPI-6, PIO data-in); there is no interrupt
abbrev pub after_read_word : Device → Device
after_read_word d = with_phase (phase_after_read d.file.phase) d

-- after a write of Data (ATA/ATAPI-6, PIO data-out); there is no interrupt
abbrev pub after_write_word : ℕ → Device → Device
after_write_word w d =
    with_phase (phase_after_write d.file.phase)
    (record d { block = block_after_write w d.file.phase d.block })

-- what a read of the table pointer answers (Bus Master IDE 1.0, descriptor table pointer register)
abbrev pub pointer_read : Device → ℕ
pointer_read d = d.bus.pointer

-- after a write of the table pointer
abbrev pub after_write_pointer : ℕ → Device → Device
after_write_pointer v d = with_bus (pointer_written v d.bus) d

-- what a look at the line answers
abbrev pub line_read : Device → Bool
line_read d = line d.file

-- an interrupt pends, whether or not nIEN masks it; no register shows it (own)
abbrev pub is_pending : Device → Bool
is_pending d = d.file.pending

-- a walk is running; no register shows it (own)
abbrev pub is_walking : Device → Bool
is_walking d = is_some d.bus.walk
