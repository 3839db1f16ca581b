-- Writes to the command block that are no command.
use Rattle.std.proofs.Common.{◌≡◌, ℕ, Bool, true, false, not, ◌&&◌, ◌==◌, if◌then◌else◌, bit_and, refl, ap, ◌∙◌}
use Rattle.std.proofs.lemmas.Nat.{and_assoc}
use Rattle.ata_taskfile.specs.declared.Reg.{Reg}
use Rattle.ata_taskfile.specs.declared.Reg.TheVariants as reg
use Rattle.ata_taskfile.specs.declared.task_file.TaskFile.{TaskFile}
use Rattle.ata_taskfile.specs.declared.registers.TheConstants.{NIEN}
use Rattle.ata_taskfile.specs.TaskFile.{line, has_bit, is_at_work, selects_absent, hob_cleared, stored}
use Rattle.ata_taskfile.specs.Bus.{raised}
use Rattle.ata_taskfile.specs.declared.bus_master.Bus.{Bus}
use Rattle.ata_taskfile.specs.Device.{Device, with_file, after_write8}
use Rattle.port_lease.specs.Writing.{is_plain_register, plainly_written, asked}

-- nIEN stays where HOB goes
masks : (c : ℕ) → has_bit NIEN (bit_and c 127) ≡ has_bit NIEN c
masks c = ap (λ n. not (n == 0)) (and_assoc 2 c 127)

-- HOB that is 0 goes no further
twice : (c : ℕ) → bit_and (bit_and c 127) 127 ≡ bit_and c 127
twice c = and_assoc 127 c 127

-- a write to the command block that is no command leaves the line
stored-line : (r : Reg) (v : ℕ) (f : TaskFile) → is_plain_register r ≡ true → line (stored r v f) ≡ line f
stored-line reg.Error v f plain = ap (λ b. f.pending && not b) (masks f.control)
stored-line reg.Count v f plain = ap (λ b. f.pending && not b) (masks f.control)
stored-line reg.Low v f plain = ap (λ b. f.pending && not b) (masks f.control)
stored-line reg.Mid v f plain = ap (λ b. f.pending && not b) (masks f.control)
stored-line reg.High v f plain = ap (λ b. f.pending && not b) (masks f.control)
stored-line reg.Device v f plain = ap (λ b. f.pending && not b) (masks f.control)
stored-line reg.Status v f plain = cc
stored-line reg.Alternate v f plain = cc
stored-line reg.BusCommand v f plain = cc
stored-line reg.BusStatus v f plain = cc

-- a bus master takes no note of a line that stays
unraised : (was : Bool) (b : Bus) → raised was was b ≡ b
unraised true b = refl
unraised false b = refl

put-file : (f : TaskFile) (d : Device) → line f ≡ line d.file → with_file f d ≡ record d { file = f }
put-file f d same = ap (λ l. record d { file = f; bus = raised (line d.file) l d.bus }) same
    ∙ ap (λ b. record d { file = f; bus = b }) (unraised (line d.file) d.bus)

-- a write to the command block that is no command, as the device makes it
plain_write : (r : Reg) (v : ℕ) (d : Device) (work : Bool) → is_plain_register r ≡ true → is_at_work d.file.phase ≡ work
    → after_write8 r v d ≡ (if work then d else record d { file = stored r v d.file })
plain_write reg.Error v d true plain is = rw is refl
plain_write reg.Count v d true plain is = rw is refl
plain_write reg.Low v d true plain is = rw is refl
plain_write reg.Mid v d true plain is = rw is refl
plain_write reg.High v d true plain is = rw is refl
plain_write reg.Device v d true plain is = rw is refl
plain_write reg.Error v d false plain is =
    rw is (put-file (stored reg.Error v d.file) d (stored-line reg.Error v d.file refl))
plain_write reg.Count v d false plain is =
    rw is (put-file (stored reg.Count v d.file) d (stored-line reg.Count v d.file refl))
plain_write reg.Low v d false plain is =
    rw is (put-file (stored reg.Low v d.file) d (stored-line reg.Low v d.file refl))
plain_write reg.Mid v d false plain is =
    rw is (put-file (stored reg.Mid v d.file) d (stored-line reg.Mid v d.file refl))
plain_write reg.High v d false plain is =
    rw is (put-file (stored reg.High v d.file) d (stored-line reg.High v d.file refl))
plain_write reg.Device v d false plain is =
    rw is (put-file (stored reg.Device v d.file) d (stored-line reg.Device v d.file refl))
plain_write reg.Status v d work plain is = cc
plain_write reg.Alternate v d work plain is = cc
plain_write reg.BusCommand v d work plain is = cc
plain_write reg.BusStatus v d work plain is = cc

pub plainly : (r : Reg) (v : ℕ) (d : Device) → is_plain_register r ≡ true → after_write8 r v d ≡ plainly_written r v d
plainly r v d plain = plain_write r v d (is_at_work d.file.phase) plain refl

-- a write to the command block that is no command, where the drive was asked before whether it is at work
cleared-stored : (r : Reg) (v : ℕ) (f : TaskFile) → is_plain_register r ≡ true
    → stored r v (hob_cleared f) ≡ stored r v f
cleared-stored reg.Error v f plain = ap (λ c. record f { control = c; features = v }) (twice f.control)
cleared-stored reg.Count v f plain = ap (λ c. record (stored reg.Count v f) { control = c }) (twice f.control)
cleared-stored reg.Low v f plain = ap (λ c. record (stored reg.Low v f) { control = c }) (twice f.control)
cleared-stored reg.Mid v f plain = ap (λ c. record (stored reg.Mid v f) { control = c }) (twice f.control)
cleared-stored reg.High v f plain = ap (λ c. record (stored reg.High v f) { control = c }) (twice f.control)
cleared-stored reg.Device v f plain = ap (λ c. record f { control = c; device = v }) (twice f.control)
cleared-stored reg.Status v f plain = cc
cleared-stored reg.Alternate v f plain = cc
cleared-stored reg.BusCommand v f plain = cc
cleared-stored reg.BusStatus v f plain = cc

asked-written : (r : Reg) (v : ℕ) (d : Device) (work absent : Bool) → is_plain_register r ≡ true
    → is_at_work d.file.phase ≡ work
    → plainly_written r v (if absent && not work then record d { file = hob_cleared d.file } else d) ≡ plainly_written
    r v d
asked-written r v d work false plain is = refl
asked-written r v d true true plain is = refl
asked-written r v d false true plain is = rw is (ap (λ f. record d { file = f }) (cleared-stored r v d.file plain))

pub asked_written : (r : Reg) (v : ℕ) (d : Device) → is_plain_register r ≡ true
    → plainly_written r v (asked d) ≡ plainly_written r v d
asked_written r v d plain = asked-written r v d (is_at_work d.file.phase) (selects_absent d.file) plain refl

-- Device written with another byte, and then with its own: HOB alone can have changed
put-back : (v : ℕ) (d : Device) (work absent : Bool) → is_at_work d.file.phase ≡ work
    → selects_absent d.file ≡ absent → absent ≡ true
    → plainly_written reg.Device d.file.device (if work then d else record d { file = stored reg.Device v d.file })
    ≡ (if absent && not work then record d { file = hob_cleared d.file } else d)
put-back v d work false is shown absent = cc
put-back v d true true is shown absent = rw is refl
put-back v d false true is shown absent =
    rw is (ap (λ c. record d { file = record d.file { control = c } }) (twice d.file.control))

pub put_back : (v : ℕ) (d : Device) → selects_absent d.file ≡ true
    → plainly_written reg.Device d.file.device (plainly_written reg.Device v d) ≡ asked d
put_back v d absent = put-back v d (is_at_work d.file.phase) (selects_absent d.file) refl refl absent
