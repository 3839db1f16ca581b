-- What the drive's steps make of an own command.
use Rattle.std.proofs.Common.{◌≡◌, ℕ, false, not, ◌==◌, bit_and, bit_or, List, refl, sym, ap, subst, ◌∙◌, arith}
use Rattle.std.proofs.lemmas.Nat.{and_assoc, and_or_apart, and_mask}
use Rattle.ata_taskfile.specs.declared.Refused.{Refused}
use Rattle.ata_taskfile.specs.declared.Request.{Request}
use Rattle.ata_taskfile.specs.declared.Taken.TheVariants.{Good, Bad}
use Rattle.ata_taskfile.specs.declared.Phase.{Phase}
use Rattle.ata_taskfile.specs.declared.Phase.TheVariants.{Reset, Idle, Busy, Ready}
use Rattle.ata_taskfile.specs.declared.Step.{Step}
use Rattle.ata_taskfile.specs.declared.Step.TheVariants as step
use Rattle.ata_taskfile.specs.declared.Stepped.{Stepped}
use Rattle.ata_taskfile.specs.declared.registers.TheConstants.{DEV}
use Rattle.ata_taskfile.specs.TaskFile.{has_bit}
use Rattle.ata_taskfile.specs.Device.{Cell}
use Rattle.ata_taskfile.specs.Lawful.{IsLawful}
use Rattle.plain_drive.specs.Plain.{Plain, with_cells}
use Rattle.plain_drive.specs.Change.{cells_after, change_in}
use Rattle.plain_drive.specs.Step.{good_step_in, bad_step_in, step_made}
use Rattle.plain_drive.specs.Seen.{HasStepped, HasLetGo}
use Rattle.own_pio.specs.declared.job.OwnJob.{OwnJob}
use Rattle.own_pio.specs.declared.job.OwnJob.TheVariants.{Read, Write, Flush}
use Rattle.own_pio.specs.Job.{IsFit, job_request, job_order}
use Rattle.own_pio.specs.Running.{IsRunning, StandsIn}

-- a good step from a phase, with what it does to the sectors
abbrev pub gone : Phase → Plain → Plain
gone phase p = with_cells (cells_after (change_in phase p) p.device.cells) (good_step_in phase p)

-- a failing step from a phase, which leaves the sectors
abbrev pub gave_up : Phase → Plain → Plain
gave_up phase p = with_cells p.device.cells (bad_step_in phase p)

-- an order of a job that isn't refused is its request
pub good_order : (job : OwnJob) (order : Request) (sectors : ℕ) → Good order ≡ job_order job sectors
    → Good order ≡ Good (job_request job)
good_order job order sectors e = grind arith

-- DEV stays where an address comes into Device
pub dev_kept : (device b : ℕ) → has_bit DEV device ≡ false
    → has_bit DEV (bit_or (bit_and device 240) (bit_and b 15)) ≡ false
dev_kept device b e =
    let none : bit_and (bit_and b 15) 16 ≡ 0 = and_assoc 16 b 15 ∙ and_mask b 0 ∙ omega arith in
    let same : bit_and (bit_or (bit_and device 240) (bit_and b 15)) 16 ≡ bit_and device 16 =
    and_or_apart 16 (bit_and device 240) (bit_and b 15) none ∙ and_assoc 16 device 240 in
    ap (λ n. not (n == 0)) same ∙ e

-- where the drive stands, by its phase
pub stands_at : (job : OwnJob) (done : ℕ) (phase : Phase) (p : Plain) → p.device.file.phase ≡ phase
    → IsRunning job done p.device → StandsIn phase p.device.file.failed job done p.device.sectors
stands_at job done phase p e r =
    let P : Phase → Type 0 = λ x. StandsIn x p.device.file.failed job done p.device.sectors in
    subst P e r.stands

-- a good step of a read
read_running : (first count done : ℕ) (order : Request) (position : ℕ) (p : Plain) → IsFit (Read first count)
    → p.device.file.phase ≡ Busy (Good order) position → IsLawful p.device
    → IsRunning (Read first count) done p.device → IsRunning (Read first count) done
    (gone (Busy (Good order) position) p).device
read_running first count done order position p fit e l r =
    let s = stands_at (Read first count) done (Busy (Good order) position) p e r in
    let is = good_order (Read first count) order p.device.sectors s.order_is in
    grind (arith, s, is)

-- a good step of a write
write_running : (first count done : ℕ) (order : Request) (position : ℕ) (p : Plain) → IsFit (Write first count)
    → p.device.file.phase ≡ Busy (Good order) position → IsLawful p.device
    → IsRunning (Write first count) done p.device → IsRunning (Write first count) done
    (gone (Busy (Good order) position) p).device
write_running first count done order position p fit e l r =
    let s = stands_at (Write first count) done (Busy (Good order) position) p e r in
    let is = good_order (Write first count) order p.device.sectors s.order_is in
    grind (arith, s, is)

-- a good step of a flush
flush_running : (done : ℕ) (order : Request) (position : ℕ) (p : Plain)
    → p.device.file.phase ≡ Busy (Good order) position
    → IsRunning Flush done p.device → IsRunning Flush done (gone (Busy (Good order) position) p).device
flush_running done order position p e r =
    let s = stands_at Flush done (Busy (Good order) position) p e r in
    let is = good_order Flush order p.device.sectors s.order_is in
    grind (arith, s, is)

-- a failing step of a job
failed_running : (job : OwnJob) (done : ℕ) (order : Request) (position : ℕ) (p : Plain) → IsRunning job done p.device
    → IsRunning job done (gave_up (Busy (Good order) position) p).device
failed_running job done order position p r = grind (arith, dev_kept)

refused_running : (job : OwnJob) (done : ℕ) (reason : Refused) (position : ℕ) (p : Plain)
    → IsRunning job done p.device → IsRunning job done (gave_up (Busy (Bad reason) position) p).device
refused_running job done reason position p r = grind arith

good_running : (job : OwnJob) (done : ℕ) (phase : Phase) (p : Plain) → IsFit job → p.device.file.phase ≡ phase
    → IsLawful p.device → IsRunning job done p.device → IsRunning job done (gone phase p).device
good_running job done Reset p fit e l r = absurd (stands_at job done Reset p e r)
good_running job done Idle p fit e l r = r
good_running job done (Ready taken position left) p fit e l r = r
good_running job done (Busy (Bad reason) position) p fit e l r = refused_running job done reason position p r
good_running (Read first count) done (Busy (Good order) position) p fit e l r =
    read_running first count done order position p fit e l r
good_running (Write first count) done (Busy (Good order) position) p fit e l r =
    write_running first count done order position p fit e l r
good_running Flush done (Busy (Good order) position) p fit e l r = flush_running done order position p e r

bad_running : (job : OwnJob) (done : ℕ) (phase : Phase) (p : Plain) → p.device.file.phase ≡ phase
    → IsRunning job done p.device → IsRunning job done (gave_up phase p).device
bad_running job done Reset p e r = r
bad_running job done Idle p e r = r
bad_running job done (Ready taken position left) p e r = r
bad_running job done (Busy (Bad reason) position) p e r = refused_running job done reason position p r
bad_running job done (Busy (Good order) position) p e r = failed_running job done order position p r

-- other cells change nothing of where the drive stands
cells_let_go : (job : OwnJob) (done : ℕ) (cells : List Cell) (p : Plain) → IsRunning job done p.device
    → IsRunning job done (with_cells cells p).device
cells_let_go job done cells p r =
    record { masked = r.masked; selected = r.selected; stands = r.stands; well = r.well }

step_running : (job : OwnJob) (done : ℕ) (s : Step) (p : Plain) → IsFit job → IsLawful p.device
    → IsRunning job done p.device → IsRunning job done (step_made s p).device
step_running job done step.Good p fit l r = good_running job done p.device.file.phase p fit refl l r
step_running job done step.Bad p fit l r = bad_running job done p.device.file.phase p refl r

pub stepped_running : (job : OwnJob) (done : ℕ) (s : Step) (answer : Stepped) (old new : Plain) → IsFit job
    → IsLawful old.device → IsRunning job done old.device → HasStepped s answer old new
    → IsRunning job done new.device
stepped_running job done s answer old new fit l r stepped =
    let next = step_running job done s old fit l r in
    subst (λ (q : Plain). IsRunning job done q.device) (sym stepped.after) (cells_let_go job done new.device.cells
    (step_made s old) next)

pub let_go_running : (job : OwnJob) (done : ℕ) (old new : Plain) → IsRunning job done old.device
    → HasLetGo old new → IsRunning job done new.device
let_go_running job done old new r gone =
    subst (λ (q : Plain). IsRunning job done q.device) (sym gone.after) (cells_let_go job done new.device.cells old r)
