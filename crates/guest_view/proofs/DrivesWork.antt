-- What an access leaves of the drive's own work, and of a command that the guest writes.
use Rattle.std.proofs.Common.{◌≡◌, ℕ, Bool, true, false, not, ◌&&◌, ◌||◌, refl, sym, ap, ◌∙◌, subst, arith}
use Rattle.ata_taskfile.specs.declared.Reg.{Reg}
use Rattle.ata_taskfile.specs.declared.Reg.TheVariants as reg
use Rattle.ata_taskfile.specs.declared.Access.{Access}
use Rattle.ata_taskfile.specs.declared.Access.TheVariants as access
use Rattle.ata_taskfile.specs.declared.registers.TheConstants.{NIEN}
use Rattle.ata_taskfile.specs.declared.bus_master.Bus.{Bus}
use Rattle.ata_taskfile.specs.TaskFile.{has_bit, is_ignored}
use Rattle.ata_taskfile.specs.Device.{Device, after_write8, with_bus}
use Rattle.own_pio.specs.Named.{nien_of}
use Rattle.own_pio.specs.Running.{IsRunning}
use Rattle.own_pio.specs.declared.job.OwnJob.{OwnJob}
use Rattle.dummy_read.specs.Flight.{IsInFlight}
use Rattle.port_lease.specs.declared.view.View.{View}
use Rattle.port_lease.specs.Free.{shows_rest}
use Rattle.guest_view.specs.View.{view_after, is_control}
use Rattle.guest_view.specs.Drive.{acknowledged, nien_written, drive_after, drive_after_read, drive_after_write, LeavesWork}

nien_as : (m : Bool) (d : Device) → LeavesWork d (after_write8 reg.Alternate (nien_of m) d)
nien_as m d = grind arith

none-left : (d : Device) → LeavesWork d d
none-left d = record { file = refl; bus = refl; others = refl }

acknowledged-left : (needed : Bool) (d : Device) → LeavesWork d (acknowledged needed d)
acknowledged-left needed d = grind arith

nien-left : (needed : Bool) (x : ℕ) (d : Device) → LeavesWork d (nien_written needed x d)
nien-left false x d = none-left d
nien-left true x d = nien_as (has_bit NIEN x) d

-- an access leaves the drive's work as it is
pub work_left : (waits : Bool) (v : View) (a : Access) (d : Device) → LeavesWork d (drive_after waits v a d)
work_left waits v (access.Read8 reg.Status) d = acknowledged-left v.file.pending d
work_left waits v (access.Read8 reg.Error) d = none-left d
work_left waits v (access.Read8 reg.Count) d = none-left d
work_left waits v (access.Read8 reg.Low) d = none-left d
work_left waits v (access.Read8 reg.Mid) d = none-left d
work_left waits v (access.Read8 reg.High) d = none-left d
work_left waits v (access.Read8 reg.Device) d = none-left d
work_left waits v (access.Read8 reg.Alternate) d = none-left d
work_left waits v (access.Read8 reg.BusCommand) d = none-left d
work_left waits v (access.Read8 reg.BusStatus) d = none-left d
work_left waits v (access.Write8 reg.Status x) d =
    acknowledged-left (v.file.pending && not (is_ignored reg.Status v.file)) d
work_left waits v (access.Write8 reg.Alternate x) d = nien-left (v.file.pending || waits) x d
work_left waits v (access.Write8 reg.Error x) d = none-left d
work_left waits v (access.Write8 reg.Count x) d = none-left d
work_left waits v (access.Write8 reg.Low x) d = none-left d
work_left waits v (access.Write8 reg.Mid x) d = none-left d
work_left waits v (access.Write8 reg.High x) d = none-left d
work_left waits v (access.Write8 reg.Device x) d = none-left d
work_left waits v (access.Write8 reg.BusCommand x) d = none-left d
work_left waits v (access.Write8 reg.BusStatus x) d = record { file = refl; bus = refl; others = refl }
work_left waits v access.ReadWord d = none-left d
work_left waits v (access.WriteWord w) d = none-left d
work_left waits v access.ReadPointer d = none-left d
work_left waits v (access.WritePointer x) d = none-left d
work_left waits v access.Line d = none-left d

-- so a drive at rest shows that it rests
pub rests_on : (waits : Bool) (v : View) (a : Access) (d : Device)
    → shows_rest (drive_after waits v a d).file ≡ shows_rest d.file
rests_on waits v a d = ap shows_rest (work_left waits v a d).file

-- where nothing pends for the guest, and no dummy read waits, a write changes the bus master alone
alone-write : (r : Reg) (x : ℕ) (v : View) (d : Device) → v.file.pending ≡ false
    → drive_after_write false r x v d ≡ with_bus (drive_after_write false r x v d).bus d
alone-write r x v d calm = grind arith

alone-read : (r : Reg) (v : View) (d : Device) → v.file.pending ≡ false → drive_after_read r v d ≡ d
alone-read r v d calm = grind arith

-- and with a dummy read its nIEN too
waiting-write : (r : Reg) (x : ℕ) (v : View) (d : Device) → v.file.pending ≡ false → is_control r ≡ false
    → drive_after_write true r x v d ≡ with_bus (drive_after_write true r x v d).bus d
waiting-write r x v d calm other = grind arith

waiting-control : (r : Reg) (x : ℕ) (v : View) (d : Device) → v.file.pending ≡ false → is_control r ≡ true
    → drive_after_write true r x v d ≡ after_write8 reg.Alternate (nien_of (has_bit NIEN x)) d
waiting-control r x v d calm is = grind arith

pub bus_alone : (v : View) (a : Access) (d : Device) → v.file.pending ≡ false
    → drive_after false v a d ≡ with_bus (drive_after false v a d).bus d
bus_alone v (access.Read8 r) d calm =
    let same = alone-read r v d calm in same ∙ ap (λ (e : Device). with_bus e.bus d) (sym same)
bus_alone v (access.Write8 r x) d calm = alone-write r x v d calm
bus_alone v access.ReadWord d calm = refl
bus_alone v (access.WriteWord w) d calm = refl
bus_alone v access.ReadPointer d calm = refl
bus_alone v (access.WritePointer x) d calm = refl
bus_alone v access.Line d calm = refl

running-bus : (job : OwnJob) (done : ℕ) (b : Bus) (d : Device) → IsRunning job done d
    → IsRunning job done (with_bus b d)
running-bus job done b d runs =
    record { masked = runs.masked; selected = runs.selected; stands = runs.stands; well = runs.well }

-- an own command runs on
pub runs_on : (job : OwnJob) (done : ℕ) (v : View) (a : Access) (d : Device) → v.file.pending ≡ false
    → IsRunning job done d → IsRunning job done (drive_after false v a d)
runs_on job done v a d calm runs = subst (IsRunning job done) (sym (bus_alone v a d calm))
    (running-bus job done (drive_after false v a d).bus d runs)

flight-bus : (sector : ℕ) (b : Bus) (d : Device) → IsInFlight sector false d → IsInFlight sector false (with_bus b d)
flight-bus sector b d flies =
    record { selected = flies.selected; stands = flies.stands; pending = flies.pending; masked = flies.masked }

written-flies : (sector : ℕ) (m : Bool) (d : Device) → IsInFlight sector false d
    → IsInFlight sector false (after_write8 reg.Alternate (nien_of m) d)
written-flies sector m d flies = grind arith

flies-write : (control : Bool) (sector : ℕ) (r : Reg) (x : ℕ) (v : View) (d : Device) → is_control r ≡ control
    → v.file.pending ≡ false → IsInFlight sector false d → IsInFlight sector false (drive_after_write true r x v d)
flies-write false sector r x v d is calm flies = subst (IsInFlight sector false)
    (sym (waiting-write r x v d calm is)) (flight-bus sector (drive_after_write true r x v d).bus d flies)
flies-write true sector r x v d is calm flies = subst (IsInFlight sector false)
    (sym (waiting-control r x v d calm is)) (written-flies sector (has_bit NIEN x) d flies)

-- a dummy read that wasn't cancelled stays in flight
pub flies_on : (sector : ℕ) (v : View) (a : Access) (d : Device) → v.file.pending ≡ false
    → IsInFlight sector false d → IsInFlight sector false (drive_after true v a d)
flies_on sector v (access.Read8 r) d calm flies = subst (IsInFlight sector false) (sym (alone-read r v d calm)) flies
flies_on sector v (access.Write8 r x) d calm flies = flies-write (is_control r) sector r x v d refl calm flies
flies_on sector v access.ReadWord d calm flies = flies
flies_on sector v (access.WriteWord w) d calm flies = flies
flies_on sector v access.ReadPointer d calm flies = flies
flies_on sector v (access.WritePointer x) d calm flies = flies
flies_on sector v access.Line d calm flies = flies

-- nothing comes to pend for the guest
calm-write : (r : Reg) (x n : ℕ) (v : View) → v.file.pending ≡ false
    → (view_after (access.Write8 r x) n v).file.pending ≡ false
calm-write r x n v calm = grind arith

pub stays_calm : (a : Access) (n : ℕ) (v : View) → v.file.pending ≡ false → (view_after a n v).file.pending ≡ false
stays_calm (access.Read8 r) n v calm = grind arith
stays_calm (access.Write8 r x) n v calm = calm-write r x n v calm
stays_calm access.ReadWord n v calm = calm
stays_calm (access.WriteWord w) n v calm = calm
stays_calm access.ReadPointer n v calm = calm
stays_calm (access.WritePointer x) n v calm = calm
stays_calm access.Line n v calm = calm
