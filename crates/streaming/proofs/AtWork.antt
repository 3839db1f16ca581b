-- Neither register accesses nor a step give a drive at work another command.
use Rattle.std.specs.Prelude.{◌==◌, if◌then◌else◌, nat_lt}
use Rattle.std.proofs.Common.{◌≡◌, ◌⊎◌, ℕ, zero, suc, Bool, true, false, List, [], ◌∷◌, inl, inr, refl, sym, ap, ◌∙◌, subst, arith}
use Rattle.ata_taskfile.specs.declared.Reg.{Reg}
use Rattle.ata_taskfile.specs.declared.Access.{Access}
use Rattle.ata_taskfile.specs.declared.Access.TheVariants as access
use Rattle.ata_taskfile.specs.declared.Form.{Form}
use Rattle.ata_taskfile.specs.declared.Form.TheVariants.{NoMove, PioIn, PioOut, DmaIn, DmaOut}
use Rattle.ata_taskfile.specs.declared.Request.{Request}
use Rattle.ata_taskfile.specs.declared.Step.{Step}
use Rattle.ata_taskfile.specs.declared.Step.TheVariants as step
use Rattle.ata_taskfile.specs.declared.Taken.{Taken}
use Rattle.ata_taskfile.specs.declared.Taken.TheVariants.{Good, Bad}
use Rattle.ata_taskfile.specs.declared.Phase.{Phase}
use Rattle.ata_taskfile.specs.declared.Phase.TheVariants.{Reset, Idle, Busy, Ready}
use Rattle.ata_taskfile.specs.declared.task_file.TaskFile.{TaskFile}
use Rattle.ata_taskfile.specs.Access.{accessed}
use Rattle.ata_taskfile.specs.Accesses.{Reaches, all_accessed}
use Rattle.ata_taskfile.specs.Device.{Device, after_write8}
use Rattle.ata_taskfile.specs.Lawful.{is_just_taken}
use Rattle.ata_taskfile.specs.TaskFile.{holds_reset, reset_ended}
use Rattle.bm_dma.specs.declared.moves.Moved.{Moved}
use Rattle.bm_dma.specs.declared.moves.Moved.TheVariants.{Whole, Short, Outside, Waiting}
use Rattle.bm_dma.specs.Move.{outcome}
use Rattle.plain_drive.specs.Plain.{Plain, with_registers}
use Rattle.plain_drive.specs.Physical.{Physical, physical_step, seen}
use Rattle.plain_drive.specs.Step.{bad_step_in, ended, first_wanted, good_step_in, offered, position_after, proceeded, sector_given, stepped_by, transferred, walked}

-- a command of which nothing is done, with its byte, or the drive's reset
abbrev IsHeldBy : Taken → ℕ → TaskFile → Type 0
IsHeldBy order byte f = ((f.phase ≡ Busy order 0) × (f.command ≡ byte)) ⊎ (f.phase ≡ Reset)

busy_written : (order : Taken) (r : Reg) (v : ℕ) (d : Device) → d.file.phase ≡ Busy order 0
    → IsHeldBy order d.file.command (after_write8 r v d).file
busy_written order r v d is = grind arith

reset_written : (r : Reg) (v : ℕ) (d : Device) → d.file.phase ≡ Reset → (after_write8 r v d).file.phase ≡ Reset
reset_written r v d is = grind arith

busy_accessed : (order : Taken) (a : Access) (d : Device) → d.file.phase ≡ Busy order 0
    → IsHeldBy order d.file.command (accessed a d).file
busy_accessed order (access.Write8 r v) d is = busy_written order r v d is
busy_accessed order (access.Read8 r) d is = grind arith
busy_accessed order access.ReadWord d is = grind arith
busy_accessed order (access.WriteWord w) d is = grind arith
busy_accessed order access.ReadPointer d is = inl (is, refl)
busy_accessed order (access.WritePointer v) d is = inl (is, refl)
busy_accessed order access.Line d is = inl (is, refl)

reset_accessed : (a : Access) (d : Device) → d.file.phase ≡ Reset → (accessed a d).file.phase ≡ Reset
reset_accessed (access.Write8 r v) d is = reset_written r v d is
reset_accessed (access.Read8 r) d is = grind arith
reset_accessed access.ReadWord d is = grind arith
reset_accessed (access.WriteWord w) d is = grind arith
reset_accessed access.ReadPointer d is = is
reset_accessed (access.WritePointer v) d is = is
reset_accessed access.Line d is = is

held_accessed : (order : Taken) (byte : ℕ) (a : Access) (d : Device) → IsHeldBy order byte d.file
    → IsHeldBy order byte (accessed a d).file
held_accessed order byte a d (inl is) =
    subst (λ byte. IsHeldBy order byte (accessed a d).file) is.1 (busy_accessed order a d is.0)
held_accessed order byte a d (inr is) = inr (reset_accessed a d is)

all_held : (order : Taken) (byte : ℕ) (accesses : List Access) (d : Device) → IsHeldBy order byte d.file
    → IsHeldBy order byte (all_accessed accesses d).file
all_held order byte [] d held = held
all_held order byte (first ∷ accesses) d held =
    all_held order byte accesses (accessed first d) (held_accessed order byte first d held)

just_held : (order : Taken) (byte : ℕ) (f : TaskFile) → IsHeldBy order byte f → is_just_taken f.phase ≡ true
    → (f.phase ≡ Busy order 0) × (f.command ≡ byte)
just_held order byte f (inl is) fresh = is
just_held order byte f (inr is) fresh = absurd cc

-- the command in hand, where nothing is done of it
pub just_busy : (phase : Phase) → is_just_taken phase ≡ true → (order : Taken) × (phase ≡ Busy order 0)
just_busy Reset fresh = absurd cc
just_busy Idle fresh = absurd cc
just_busy (Ready order done left) fresh = absurd cc
just_busy (Busy order zero) fresh = (order, refl)
just_busy (Busy order (suc done)) fresh = absurd (grind arith)

-- by accesses alone no command comes behind one of which nothing is done, nor another byte
pub stays_begun : (d e : Device) → Reaches d e → is_just_taken d.file.phase ≡ true → is_just_taken e.file.phase ≡ true
    → (e.file.phase ≡ d.file.phase) × (e.file.command ≡ d.file.command)
stays_begun d e reached fresh again =
    let busy = just_busy d.file.phase fresh in
    let there = all_accessed reached.accesses d in
    let at : is_just_taken there.file.phase ≡ true =
    subst (λ (f : Device). is_just_taken f.file.phase ≡ true) reached.leads again in
    let held = just_held busy.0 d.file.command there.file
    (all_held busy.0 d.file.command reached.accesses d (inl (busy.1, refl))) at in (
      ap (λ (f : Device). f.file.phase) reached.leads ∙ held.0 ∙ sym busy.1,
      ap (λ (f : Device). f.file.command) reached.leads ∙ held.1,
    )

pub begins_none : (d e : Device) → Reaches d e → is_just_taken d.file.phase ≡ true → is_just_taken e.file.phase ≡ true
    → e.file.phase ≡ d.file.phase
begins_none d e reached fresh again = (stays_begun d e reached fresh again).0

-- a sector that the bus master tried to move leaves a command of which nothing is done only where it moved none
position_stays : (moved : Moved) (done : ℕ) → (position_after moved done == 0) ≡ true → position_after moved done ≡ done
position_stays Whole done none = absurd (grind arith)
position_stays (Short n) done none = refl
position_stays Outside done none = refl
position_stays Waiting done none = refl

-- a step leaves the command in hand, where it is one of which nothing is done afterwards
abbrev Stays : Phase → Phase → Type 0
Stays old new = is_just_taken new ≡ true → new ≡ old

received_stays : (order : Request) (done : ℕ) (p : Plain) (first more : Bool)
    → Stays (Busy (Good order) done)
    (if first then first_wanted order p else (if more then offered order done [] p else ended p)).device.file.phase
received_stays order done p true more fresh = absurd cc
received_stays order done p false true fresh = absurd cc
received_stays order done p false false fresh = absurd cc

given_stays : (order : Request) (done : ℕ) (p : Plain) (more : Bool)
    → Stays (Busy (Good order) done)
    (if more then sector_given order done p else transferred order p).device.file.phase
given_stays order done p true fresh =
    ap (Busy (Good order)) (position_stays (outcome p.device.bus p.memory) done fresh)
given_stays order done p false fresh = absurd cc

taken_stays : (order : Request) (done : ℕ) (p : Plain) (more : Bool)
    → Stays (Busy (Good order) done)
    (if more then walked order done p else transferred order p).device.file.phase
taken_stays order done p true fresh =
    ap (Busy (Good order)) (position_stays (outcome p.device.bus p.memory) done fresh)
taken_stays order done p false fresh = absurd cc

proceeded_stays : (form : Form) (order : Request) (done : ℕ) (p : Plain)
    → Stays (Busy (Good order) done) (proceeded form order done p).device.file.phase
proceeded_stays PioIn order done p fresh = absurd cc
proceeded_stays PioOut order done p fresh = received_stays order done p (done == 0) (nat_lt done order.count) fresh
proceeded_stays DmaIn order done p fresh = given_stays order done p (nat_lt done order.count) fresh
proceeded_stays DmaOut order done p fresh = taken_stays order done p (nat_lt done order.count) fresh
proceeded_stays NoMove order done p fresh = absurd cc

reset_stays : (p : Plain) (held : Bool) → p.device.file.phase ≡ Reset
    → Stays Reset (if held then p else with_registers (reset_ended p.device.file) p).device.file.phase
reset_stays p true at fresh = at
reset_stays p false at fresh = absurd cc

good_stays : (phase : Phase) (p : Plain) → p.device.file.phase ≡ phase
    → Stays phase (good_step_in phase p).device.file.phase
good_stays Reset p at fresh = reset_stays p (holds_reset p.device.file) at fresh
good_stays Idle p at fresh = at
good_stays (Ready order done left) p at fresh = at
good_stays (Busy (Bad reason) done) p at fresh = absurd cc
good_stays (Busy (Good order) done) p at fresh = proceeded_stays order.form order done p fresh

bad_stays : (phase : Phase) (p : Plain) → p.device.file.phase ≡ phase
    → Stays phase (bad_step_in phase p).device.file.phase
bad_stays Reset p at fresh = at
bad_stays Idle p at fresh = at
bad_stays (Ready order done left) p at fresh = at
bad_stays (Busy (Bad reason) done) p at fresh = absurd cc
bad_stays (Busy (Good order) done) p at fresh = absurd cc

step_stays : (s : Step) (p : Plain) → Stays p.device.file.phase (stepped_by s p).device.file.phase
step_stays step.Good p fresh = good_stays p.device.file.phase p refl fresh
step_stays step.Bad p fresh = bad_stays p.device.file.phase p refl fresh

-- so a step takes no command
pub steps_take_none : (s : Step) (p : Physical) → is_just_taken (physical_step s p).file.phase ≡ true
    → (physical_step s p).file.phase ≡ p.file.phase
steps_take_none s p fresh = step_stays s (seen p) fresh
