-- Which accesses put a command in hand.
use Rattle.std.proofs.Common.{◌≡◌, ℕ, Bool, true, false, refl, arith}
use Rattle.ata_taskfile.specs.declared.Reg.{Reg}
use Rattle.ata_taskfile.specs.declared.Access.{Access}
use Rattle.ata_taskfile.specs.declared.Access.TheVariants as access
use Rattle.ata_taskfile.specs.declared.Phase.{Phase}
use Rattle.ata_taskfile.specs.declared.Phase.TheVariants.{Busy}
use Rattle.ata_taskfile.specs.Data.{phase_after_read, phase_after_write}
use Rattle.ata_taskfile.specs.Order.{inputs, order_of, taken}
use Rattle.ata_taskfile.specs.Device.{Device}
use Rattle.ata_taskfile.specs.Lawful.{is_just_taken}
use Rattle.port_lease.specs.declared.view.View.{View}
use Rattle.port_lease.specs.View.{is_command}
use Rattle.guest_view.specs.View.{view_after, takes_command, byte_written}
use Rattle.guest_view.specs.Drive.{drive_after}

-- a command that is taken is in hand at its start, and its byte is kept
taken-write : (r : Reg) (x n : ℕ) (v : View) → takes_command (access.Write8 r x) v.file ≡ true
    → (view_after (access.Write8 r x) n v).file.phase ≡ Busy (taken (order_of x (inputs v.file) n)) 0
taken-write r x n v takes = grind arith

pub taken_phase : (a : Access) (n : ℕ) (v : View) → takes_command a v.file ≡ true
    → (view_after a n v).file.phase ≡ Busy (taken (order_of (byte_written a) (inputs v.file) n)) 0
taken_phase (access.Write8 r x) n v takes = taken-write r x n v takes
taken_phase (access.Read8 r) n v takes = absurd cc
taken_phase access.ReadWord n v takes = absurd cc
taken_phase (access.WriteWord w) n v takes = absurd cc
taken_phase access.ReadPointer n v takes = absurd cc
taken_phase (access.WritePointer x) n v takes = absurd cc
taken_phase access.Line n v takes = absurd cc

byte-write : (r : Reg) (x n : ℕ) (v : View) → takes_command (access.Write8 r x) v.file ≡ true
    → (view_after (access.Write8 r x) n v).file.command ≡ x
byte-write r x n v takes = grind arith

pub taken_byte : (a : Access) (n : ℕ) (v : View) → takes_command a v.file ≡ true
    → (view_after a n v).file.command ≡ byte_written a
taken_byte (access.Write8 r x) n v takes = byte-write r x n v takes
taken_byte (access.Read8 r) n v takes = absurd cc
taken_byte access.ReadWord n v takes = absurd cc
taken_byte (access.WriteWord w) n v takes = absurd cc
taken_byte access.ReadPointer n v takes = absurd cc
taken_byte (access.WritePointer x) n v takes = absurd cc
taken_byte access.Line n v takes = absurd cc

-- no other access puts one in hand
others-write : (r : Reg) (x n : ℕ) (v : View) → takes_command (access.Write8 r x) v.file ≡ false
    → is_just_taken (view_after (access.Write8 r x) n v).file.phase ≡ true
    → (view_after (access.Write8 r x) n v).file.phase ≡ v.file.phase
others-write r x n v takes fresh = grind arith

-- a read of Data puts no command in hand
pub read_phase : (phase : Phase) → is_just_taken (phase_after_read phase) ≡ true → phase_after_read phase ≡ phase
read_phase phase fresh = grind arith

write-phase : (phase : Phase) → is_just_taken (phase_after_write phase) ≡ true → phase_after_write phase ≡ phase
write-phase phase fresh = grind arith

pub others_stay : (a : Access) (n : ℕ) (v : View) → takes_command a v.file ≡ false
    → is_just_taken (view_after a n v).file.phase ≡ true → (view_after a n v).file.phase ≡ v.file.phase
others_stay (access.Write8 r x) n v takes fresh = others-write r x n v takes fresh
others_stay (access.Read8 r) n v takes fresh = grind arith
others_stay access.ReadWord n v takes fresh = read_phase v.file.phase fresh
others_stay (access.WriteWord w) n v takes fresh = write-phase v.file.phase fresh
others_stay access.ReadPointer n v takes fresh = refl
others_stay (access.WritePointer x) n v takes fresh = refl
others_stay access.Line n v takes fresh = refl

-- a write of Command that is ignored does nothing
ignored-write : (r : Reg) (x n : ℕ) (v : View) → is_command (access.Write8 r x) ≡ true
    → takes_command (access.Write8 r x) v.file ≡ false → view_after (access.Write8 r x) n v ≡ v
ignored-write r x n v is takes = grind arith

pub ignored_view : (a : Access) (n : ℕ) (v : View) → is_command a ≡ true → takes_command a v.file ≡ false
    → view_after a n v ≡ v
ignored_view (access.Write8 r x) n v is takes = ignored-write r x n v is takes
ignored_view (access.Read8 r) n v is takes = absurd cc
ignored_view access.ReadWord n v is takes = absurd cc
ignored_view (access.WriteWord w) n v is takes = absurd cc
ignored_view access.ReadPointer n v is takes = absurd cc
ignored_view (access.WritePointer x) n v is takes = absurd cc
ignored_view access.Line n v is takes = absurd cc

ignored-reaches : (waits : Bool) (r : Reg) (x : ℕ) (v : View) (d : Device) → is_command (access.Write8 r x) ≡ true
    → takes_command (access.Write8 r x) v.file ≡ false → drive_after waits v (access.Write8 r x) d ≡ d
ignored-reaches waits r x v d is takes = grind arith

pub ignored_drive : (waits : Bool) (a : Access) (v : View) (d : Device) → is_command a ≡ true
    → takes_command a v.file ≡ false → drive_after waits v a d ≡ d
ignored_drive waits (access.Write8 r x) v d is takes = ignored-reaches waits r x v d is takes
ignored_drive waits (access.Read8 r) v d is takes = absurd cc
ignored_drive waits access.ReadWord v d is takes = absurd cc
ignored_drive waits (access.WriteWord w) v d is takes = absurd cc
ignored_drive waits access.ReadPointer v d is takes = absurd cc
ignored_drive waits (access.WritePointer x) v d is takes = absurd cc
ignored_drive waits access.Line v d is takes = absurd cc
