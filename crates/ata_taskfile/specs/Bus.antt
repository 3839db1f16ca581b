-- The bus master of one channel: its registers, its pointer, and where a walk begins and ends.
use Rattle.std.specs.Prelude.{ℕ, Bool, true, false, not, ◌&&◌, ◌-◌, ◌%◌, if◌then◌else◌, bit_or, Some, None}
use Rattle.ata_taskfile.specs.declared.Reg.{Reg}
use Rattle.ata_taskfile.specs.declared.Reg.TheVariants as reg
use Rattle.ata_taskfile.specs.declared.bus_master.Bus.{Bus}
use Rattle.ata_taskfile.specs.TaskFile.{has_bit}
use Rattle.ata_taskfile.specs.declared.registers.TheConstants.{START, INWARD, ACTIVE, BUS_ERROR, INTERRUPT}

-- a bit of a byte as it is shown
abbrev pub bit_shown : Bool → ℕ → ℕ
bit_shown true bit = bit
bit_shown false bit = 0

-- power-on: all 0 (own)
abbrev pub idle_bus : Bus
idle_bus = record {
  start = false;
  inward = false;
  active = false;
  error = false;
  interrupt = false;
  pointer = 0;
  walk = None;
}

-- the byte of the command register: start and direction (Bus Master IDE 1.0, command register)
abbrev pub command_shown : Bus → ℕ
command_shown b = bit_or (bit_shown b.start START) (bit_shown b.inward INWARD)

-- the byte of the status register: active, error and interrupt (Bus Master IDE 1.0, status register);
-- bits 3 to 7 are 0 (own)
abbrev pub status_shown : Bus → ℕ
status_shown b =
    bit_or (bit_or (bit_shown b.active ACTIVE) (bit_shown b.error BUS_ERROR))
    (bit_shown b.interrupt INTERRUPT)

-- what a read of a register of the bus master answers; it changes nothing
abbrev pub bus_value : Reg → Bus → ℕ
bus_value reg.BusCommand b = command_shown b
bus_value reg.BusStatus b = status_shown b
bus_value reg.Error b = 0
bus_value reg.Count b = 0
bus_value reg.Low b = 0
bus_value reg.Mid b = 0
bus_value reg.High b = 0
bus_value reg.Device b = 0
bus_value reg.Status b = 0
bus_value reg.Alternate b = 0

-- a walk begins at the table's top, and has moved nothing
abbrev pub walk_begun : Bus → Bus
walk_begun b = record b { start = true; active = true; walk = Some 0 }

-- a walk ends with its command, and active stays as it is (own: what active then says)
abbrev pub walk_ended : Bus → Bus
walk_ended b = record b { walk = None }

-- a walk is stopped, which clears start and active
abbrev pub walk_stopped : Bus → Bus
walk_stopped b = record b { start = false; active = false; walk = None }

-- start as it is written and as it was: 0 stops the walk, 1 after 0 begins one (Bus Master IDE 1.0, command register),
-- and 1 after 1 does nothing (own)
abbrev pub started : Bool → Bool → Bus → Bus
started false was b = walk_stopped b
started true false b = walk_begun b
started true true b = b

-- after a write of the command register; the direction bit is kept, and nothing looks at it (own)
abbrev pub command_written : ℕ → Bus → Bus
command_written v b = started (has_bit START v) b.start (record b { inward = has_bit INWARD v })

-- after a write of the status register: a 1 clears error or interrupt
-- (Bus Master IDE 1.0, status register)
abbrev pub status_written : ℕ → Bus → Bus
status_written v b = record b {
  error = b.error && not (has_bit BUS_ERROR v);
  interrupt = b.interrupt && not (has_bit INTERRUPT v);
}

-- after a write of a register of the bus master, which every phase of the drive takes
abbrev pub bus_written : Reg → ℕ → Bus → Bus
bus_written reg.BusCommand v b = command_written v b
bus_written reg.BusStatus v b = status_written v b
bus_written reg.Error v b = b
bus_written reg.Count v b = b
bus_written reg.Low v b = b
bus_written reg.Mid v b = b
bus_written reg.High v b = b
bus_written reg.Device v b = b
bus_written reg.Status v b = b
bus_written reg.Alternate v b = b

-- after a write of the pointer: its two low bits are 0 (Bus Master IDE 1.0, descriptor table pointer register),
-- and it stays while start is 1 (own)
abbrev pub pointer_written : ℕ → Bus → Bus
pointer_written v b = if b.start then b else record b { pointer = v - v % 4 }

-- the bus master after the line was and is so: each rise sets the interrupt bit
-- (Bus Master IDE 1.0, status register)
abbrev pub raised : Bool → Bool → Bus → Bus
raised false true b = record b { interrupt = true }
raised false false b = b
raised true now b = b
