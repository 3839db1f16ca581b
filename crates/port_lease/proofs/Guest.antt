-- The guest's side is one device.
use Rattle.std.proofs.Common.{◌≡◌, ℕ, Bool, false, ◌||◌, if◌then◌else◌, refl, ap, ◌∙◌, arith}
use Rattle.ata_taskfile.specs.declared.Reg.{Reg}
use Rattle.ata_taskfile.specs.declared.Reg.TheVariants as reg
use Rattle.ata_taskfile.specs.declared.Access.TheVariants as access
use Rattle.ata_taskfile.specs.declared.Phase.{Phase}
use Rattle.ata_taskfile.specs.declared.Wrote.{Wrote}
use Rattle.ata_taskfile.specs.declared.Wrote.TheVariants.{Stored, Ignored, Command, ResetBegun}
use Rattle.ata_taskfile.specs.declared.task_file.TaskFile.{TaskFile}
use Rattle.ata_taskfile.specs.declared.bus_master.Bus.{Bus}
use Rattle.ata_taskfile.specs.TaskFile.{line, after_read, wrote, after_write}
use Rattle.ata_taskfile.specs.Bus.{raised, command_written, status_written}
use Rattle.ata_taskfile.specs.Device.{Device, is_moving, bus_in_reset, in_hand, after_read8, after_wrote, after_write8}
use Rattle.port_lease.specs.declared.view.View.{View}
use Rattle.port_lease.specs.View.{uses_bus, IsGiven, file_kept, bus_kept, reached}
use Rattle.port_lease.specs.Seen.{bus_beside, on_guest_side}

-- the bus master on the guest's side, by whether the command given uses the drive's
unfoldable pub seen : Bool → Bus → Bus → Bus
seen moves kept b = if moves then record b { error = kept.error || b.error } else bus_beside kept b

-- a rise of the line shows in it alike
pub raised-seen : (was now moves : Bool) (kept b : Bus) → seen moves kept (raised was now b) ≡ raised was now
    (seen moves kept b)
unfolding seen
raised-seen was now moves kept b = grind arith

reset-seen : (phase : Phase) (moves : Bool) (kept b : Bus) → (moves ≡ false → is_moving phase ≡ false)
    → seen moves kept (bus_in_reset phase b) ≡ bus_in_reset phase (seen moves kept b)
unfolding seen
reset-seen phase moves kept b given = grind arith

command-seen : (v : ℕ) (moves : Bool) (kept b : Bus)
    → (if moves then seen moves kept (command_written v b) else seen moves (command_written v kept)
    b) ≡ command_written v (seen moves kept b)
unfolding seen
command-seen v moves kept b = grind arith

status-seen : (v : ℕ) (moves : Bool) (kept b : Bus) → seen moves (status_written v kept)
    (status_written v b) ≡ status_written v (seen moves kept b)
unfolding seen
status-seen v moves kept b = grind arith

-- a guest's read of a register answers as that of the one device
pub read_seen : (r : Reg) (v : View) (d e : Device) → e ≡ after_read8 r d
    → on_guest_side v e ≡ after_read8 r (on_guest_side v d)
unfolding seen
read_seen r v d e is =
    rw is (ap (λ b. record d { file = after_read r d.file; bus = b })
    (raised-seen (line d.file) (line (after_read r d.file)) (uses_bus v) v.bus d.bus))

-- a guest's write to the task file is the one device's
wrote-seen : (w : Wrote) (f : TaskFile) (v : View) (d : Device) → IsGiven v d
    → on_guest_side v (after_wrote w f d) ≡ after_wrote w f (on_guest_side v d)
unfolding seen
wrote-seen Stored f v d given = ap (λ b. record d { file = f; bus = b })
    (raised-seen (line d.file) (line f) (uses_bus v) v.bus d.bus)
wrote-seen Ignored f v d given = refl
wrote-seen (Command byte) f v d given = let g = in_hand byte d.sectors f in
    ap (λ b. record d { file = g; bus = b }) (raised-seen (line d.file) (line g) (uses_bus v) v.bus d.bus)
wrote-seen ResetBegun f v d given =
    ap (λ b. record d { file = f; bus = b })
    (raised-seen (line d.file) (line f) (uses_bus v) v.bus (bus_in_reset d.file.phase d.bus)
    ∙ ap (raised (line d.file) (line f)) (reset-seen d.file.phase (uses_bus v) v.bus d.bus given))

-- what is kept of the registers never changes the phase
kept-phase : (r : Reg) (x : ℕ) (phase : Phase) (f : TaskFile) → (file_kept r x phase f).phase ≡ f.phase
kept-phase r x phase f = grind arith

-- a guest's write to any register is the one device's
write-seen : (r : Reg) (x : ℕ) (v : View) (d : Device) → IsGiven v d
    → on_guest_side (record v { bus = bus_kept r x v }) (reached v (access.Write8 r x) d) ≡ after_write8 r x
    (on_guest_side v d)
unfolding seen
write-seen reg.Error x v d given = wrote-seen (wrote reg.Error x d.file) (after_write reg.Error x d.file) v d given
write-seen reg.Count x v d given = wrote-seen (wrote reg.Count x d.file) (after_write reg.Count x d.file) v d given
write-seen reg.Low x v d given = wrote-seen (wrote reg.Low x d.file) (after_write reg.Low x d.file) v d given
write-seen reg.Mid x v d given = wrote-seen (wrote reg.Mid x d.file) (after_write reg.Mid x d.file) v d given
write-seen reg.High x v d given = wrote-seen (wrote reg.High x d.file) (after_write reg.High x d.file) v d given
write-seen reg.Device x v d given = wrote-seen (wrote reg.Device x d.file) (after_write reg.Device x d.file) v d given
write-seen reg.Status x v d given = wrote-seen (wrote reg.Status x d.file) (after_write reg.Status x d.file) v d given
write-seen reg.Alternate x v d given = wrote-seen (wrote reg.Alternate x d.file) (after_write reg.Alternate x d.file)
    v d given
write-seen reg.BusCommand x v d given = grind (arith, command-seen)
write-seen reg.BusStatus x v d given = ap (λ b. record d { bus = b }) (status-seen x (uses_bus v) v.bus d.bus)

on-same : (v v' : View) (d : Device) → v'.file.phase ≡ v.file.phase → v'.bus ≡ v.bus
    → on_guest_side v' d ≡ on_guest_side v d
unfolding seen
on-same v v' d phase bus = ap (λ p. record d { bus = seen (is_moving p) v'.bus d.bus }) phase
    ∙ ap (λ b. record d { bus = seen (uses_bus v) b d.bus }) bus

pub write_seen : (r : Reg) (x : ℕ) (v w : View) (d e : Device) → IsGiven v d → e ≡ reached v (access.Write8 r x) d
    → w.file ≡ file_kept r x d.file.phase v.file → w.bus ≡ bus_kept r x v
    → on_guest_side w e ≡ after_write8 r x (on_guest_side v d)
write_seen r x v w d e given is file bus =
    let phase : w.file.phase ≡ v.file.phase = ap (λ f. f.phase) file ∙ kept-phase r x d.file.phase v.file in
    rw is (on-same (record v { bus = bus_kept r x v }) w (reached v (access.Write8 r x) d) phase bus
    ∙ write-seen r x v d given)
