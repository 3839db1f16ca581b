-- The guest has the same device, and each next read answers alike.
use Rattle.std.proofs.Common.{◌≡◌, ℕ, Bool, true, false, if◌then◌else◌, refl, sym, ap, ◌∙◌}
use Rattle.ata_taskfile.specs.declared.Reg.{Reg}
use Rattle.ata_taskfile.specs.declared.Reg.TheVariants as reg
use Rattle.ata_taskfile.specs.declared.task_file.TaskFile.{TaskFile}
use Rattle.ata_taskfile.specs.declared.bus_master.Bus.{Bus}
use Rattle.ata_taskfile.specs.TaskFile.{is_of_bus, line, value}
use Rattle.ata_taskfile.specs.Bus.{bus_value}
use Rattle.ata_taskfile.specs.Device.{Device}
use Rattle.plain_drive.specs.Alike.{without_command}
use Rattle.port_lease.specs.declared.view.View.{View}
use Rattle.port_lease.specs.View.{uses_bus}
use Rattle.port_lease.specs.Seen.{Seen, seen_of, seen_on_guest_side, seen_on_monitor_side, bus_beside, bus_on_guest_side, IsSame, AnswersAlike}
use Rattle.port_lease.specs.Handover.{after_give, after_remove, bus_given}

-- no register shows the byte of the last command
value_alike : (r : Reg) (c : ℕ) (f : TaskFile) → value r (record f { command = c }) ≡ value r f
value_alike reg.Error c f = refl
value_alike reg.Count c f = refl
value_alike reg.Low c f = refl
value_alike reg.Mid c f = refl
value_alike reg.High c f = refl
value_alike reg.Device c f = refl
value_alike reg.Status c f = refl
value_alike reg.Alternate c f = refl
value_alike reg.BusCommand c f = refl
value_alike reg.BusStatus c f = refl

-- where the guest has the same device, each next read answers as before
same_reads : (old new : Seen) → IsSame old new → AnswersAlike old new
same_reads old new same = record {
  registers = λ r.
      let of_file : value r new.file ≡ value r old.file =
      sym (value_alike r 0 new.file) ∙ ap (value r) same.file ∙ value_alike r 0 old.file in
      ap (λ b. if is_of_bus r then bus_value r b else value r new.file) same.bus
      ∙ ap (λ x. if is_of_bus r then bus_value r old.bus else x) of_file;
  pointer = ap (λ b. b.pointer) same.bus;
  line = same.line;
}

given : (moves : Bool) (v : View) (b : Bus) → uses_bus v ≡ moves
    → bus_on_guest_side v (bus_given v b) ≡ bus_beside v.bus b
given true v b e = rw e refl
given false v b e = rw e refl

-- the guest has the same device after a give
pub give_same : (v : View) (c : ℕ) (d e : Device) → d.file.pending ≡ false → v.file.pending ≡ false
    → e ≡ after_give v c d
    → IsSame (seen_on_monitor_side v d) (seen_on_guest_side v e)
give_same v c d e low unpended is =
    let l : line (record v.file { command = c }) ≡ line d.file = rw (low, unpended) refl in
    rw is (record { file = refl; bus = given (uses_bus v) v d.bus refl; line = l })

-- each read answers alike after a give
pub give_alike : (v : View) (c : ℕ) (d e : Device) → d.file.pending ≡ false → v.file.pending ≡ false
    → e ≡ after_give v c d
    → AnswersAlike (seen_on_monitor_side v d) (seen_on_guest_side v e)
give_alike v c d e low unpended is =
    same_reads (seen_on_monitor_side v d) (seen_on_guest_side v e) (give_same v c d e low unpended is)

-- the bus master is the same after a removal
pub remove_bus : (v : View) (d e : Device) → v.bus.error ≡ false → e ≡ after_remove v d
    → e.bus ≡ bus_beside v.bus d.bus
remove_bus v d e well is = rw (is, well) refl

-- the guest has the same device after a removal at which the line is low
pub remove_same : (v : View) (d e : Device) → line d.file ≡ false → v.file.pending ≡ false → v.bus.error ≡ false
    → e ≡ after_remove v d
    → IsSame (seen_on_monitor_side v d) (seen_of e)
remove_same v d e low unpended well is =
    let l : line e.file ≡ line d.file = rw (is, low, unpended) refl in
    record { file = ap (λ (x : Device). without_command x.file) is; bus = remove_bus v d e well is; line = l }

-- each read answers alike after a removal
pub remove_alike : (v : View) (d e : Device) → d.file.pending ≡ false → v.file.pending ≡ false → v.bus.error ≡ false
    → e ≡ after_remove v d
    → AnswersAlike (seen_on_monitor_side v d) (seen_of e)
remove_alike v d e low unpended well is =
    let quiet : line d.file ≡ false = rw low refl in
    same_reads (seen_on_monitor_side v d) (seen_of e) (remove_same v d e quiet unpended well is)
