-- What commands that the guest writes are answered, and when they are marked.
use Rattle.std.proofs.Common.{◌≡◌, ℕ, Bool, true, false, not, ◌&&◌, if◌then◌else◌, None, refl, sym, ap, ◌∙◌, arith}
use Rattle.ata_taskfile.specs.declared.Reg.{Reg}
use Rattle.ata_taskfile.specs.declared.Reg.TheVariants as reg
use Rattle.ata_taskfile.specs.declared.Access.{Access}
use Rattle.ata_taskfile.specs.declared.Access.TheVariants as access
use Rattle.ata_taskfile.specs.declared.Phase.{Phase}
use Rattle.ata_taskfile.specs.declared.task_file.TaskFile.{TaskFile}
use Rattle.ata_taskfile.specs.declared.bus_master.Bus.{Bus}
use Rattle.ata_taskfile.specs.TaskFile.{is_ignored, line, stored}
use Rattle.ata_taskfile.specs.Bus.{raised}
use Rattle.ata_taskfile.specs.Access.{accessed, answer_to}
use Rattle.ata_taskfile.specs.Data.{phase_after_write}
use Rattle.ata_taskfile.specs.Device.{Device, in_hand}
use Rattle.ata_taskfile.specs.Lawful.{is_just_taken}
use Rattle.port_lease.specs.declared.view.View.{View}
use Rattle.port_lease.specs.View.{is_command, is_walk_access, is_status_or_command, reached, uses_bus}
use Rattle.guest_view.specs.View.{takes_command, reads_block}
use Rattle.guest_view.proofs.Commands.{read_phase}
use Rattle.monitor_state.specs.declared.parts.Parts.{Parts}
use Rattle.monitor_access.specs.Marks.{TakesNone, mark_for, mark_over, order_written}

-- an access that takes no command has no mark
pub unmarked : (f : TaskFile) (p : Parts) (a : Access) → takes_command a f ≡ false → mark_over f p a ≡ None
unmarked f p a takes = rw takes refl

-- a write answers nothing, whatever the device
pub command_answered : (a : Access) (d e : Device) → is_command a ≡ true → answer_to a d ≡ answer_to a e
command_answered (access.Write8 r x) d e is = refl
command_answered (access.Read8 r) d e is = absurd cc
command_answered access.ReadWord d e is = absurd cc
command_answered (access.WriteWord w) d e is = absurd cc
command_answered access.ReadPointer d e is = absurd cc
command_answered (access.WritePointer x) d e is = absurd cc
command_answered access.Line d e is = absurd cc

pub command_reads_none : (a : Access) (phase : Phase) → is_command a ≡ true → reads_block a phase ≡ false
command_reads_none (access.Write8 r x) phase is = refl
command_reads_none (access.Read8 r) phase is = refl
command_reads_none access.ReadWord phase is = absurd cc
command_reads_none (access.WriteWord w) phase is = refl
command_reads_none access.ReadPointer phase is = refl
command_reads_none (access.WritePointer x) phase is = refl
command_reads_none access.Line phase is = refl

write_phase : (phase : Phase) → is_just_taken (phase_after_write phase) ≡ true → is_just_taken phase ≡ true
write_phase phase fresh = grind arith

written_none : (r : Reg) (x : ℕ) (d : Device) → is_status_or_command r ≡ false
    → TakesNone d.file (accessed (access.Write8 r x) d).file
written_none r x d other fresh = grind arith

-- only a command is taken by a device
pub accessed_none : (a : Access) (d : Device) → is_command a ≡ false → TakesNone d.file (accessed a d).file
accessed_none (access.Write8 r x) d other fresh = written_none r x d other fresh
accessed_none (access.Read8 r) d other fresh = grind arith
accessed_none access.ReadWord d other fresh = ap is_just_taken (sym (read_phase d.file.phase fresh)) ∙ fresh
accessed_none (access.WriteWord w) d other fresh = write_phase d.file.phase fresh
accessed_none access.ReadPointer d other fresh = fresh
accessed_none (access.WritePointer x) d other fresh = fresh
accessed_none access.Line d other fresh = fresh

reached_where : (kept : Bool) (a : Access) (d : Device) → is_command a ≡ false
    → TakesNone d.file (if kept then d else accessed a d).file
reached_where true a d other = λ fresh. fresh
reached_where false a d other = accessed_none a d other

-- and so on the guest's side
pub reached_none : (v : View) (a : Access) (d : Device) → is_command a ≡ false → TakesNone d.file (reached v a d).file
reached_none v a d other = reached_where (is_walk_access a && not (uses_bus v)) a d other

-- one that takes a command has the mark of its order
pub marked : (f : TaskFile) (p : Parts) (a : Access) → takes_command a f ≡ true
    → mark_over f p a ≡ mark_for (order_written a f p.area.sectors) p
marked f p a takes = rw takes refl

-- no rise shows where the line is low then
pub unraised : (was : Bool) (b : Bus) → raised was false b ≡ b
unraised true b = refl
unraised false b = refl

taken_by : (r : Reg) (x : ℕ) (f : TaskFile) (b : Bus) (g : Device) → is_status_or_command r ≡ true
    → is_ignored reg.Status f ≡ false
    → accessed (access.Write8 r x) (record g { file = f; bus = b })
    ≡ record g { file = in_hand x g.sectors (stored reg.Status x f); bus = b }
taken_by reg.Status x f b g is takes =
    rw takes (ap (λ b. record g { file = in_hand x g.sectors (stored reg.Status x f); bus = b }) (unraised (line f) b))
taken_by reg.Error x f b g is takes = absurd cc
taken_by reg.Count x f b g is takes = absurd cc
taken_by reg.Low x f b g is takes = absurd cc
taken_by reg.Mid x f b g is takes = absurd cc
taken_by reg.High x f b g is takes = absurd cc
taken_by reg.Device x f b g is takes = absurd cc
taken_by reg.Alternate x f b g is takes = absurd cc
taken_by reg.BusCommand x f b g is takes = absurd cc
taken_by reg.BusStatus x f b g is takes = absurd cc

-- a command is taken alike where an interrupt was acknowledged before, and whatever the last one was
pub command_taken : (a : Access) (f : TaskFile) (command : ℕ) (b : Bus) (g : Device) → is_command a ≡ true
    → is_ignored reg.Status f ≡ false
    → accessed a (record g { file = f; bus = b })
    ≡ accessed a (record g { file = record f { pending = false; command = command }; bus = b })
command_taken (access.Write8 r x) f command b g is takes =
    taken_by r x f b g is takes ∙ sym (taken_by r x (record f { pending = false; command = command }) b g is takes)
command_taken (access.Read8 r) f command b g is takes = absurd cc
command_taken access.ReadWord f command b g is takes = absurd cc
command_taken (access.WriteWord w) f command b g is takes = absurd cc
command_taken access.ReadPointer f command b g is takes = absurd cc
command_taken (access.WritePointer x) f command b g is takes = absurd cc
command_taken access.Line f command b g is takes = absurd cc
