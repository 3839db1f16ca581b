-- What a run of a physical drive does to its sectors.
use Rattle.std.proofs.Common.{◌≡◌, ℕ, Bool, true, false, List, [], ◌∷◌, length, refl, ap, ◌∙◌}
use Rattle.std.specs.Prelude.{if◌then◌else◌, ◌==◌, nat_lt}
use Rattle.ata_taskfile.specs.declared.Access.{Access}
use Rattle.ata_taskfile.specs.declared.Form.{Form}
use Rattle.ata_taskfile.specs.declared.Form.TheVariants.{NoMove, PioIn, PioOut, DmaIn, DmaOut}
use Rattle.ata_taskfile.specs.declared.Request.{Request}
use Rattle.ata_taskfile.specs.declared.Taken.TheVariants.{Good, Bad}
use Rattle.ata_taskfile.specs.declared.Phase.{Phase}
use Rattle.ata_taskfile.specs.declared.Phase.TheVariants.{Reset, Idle, Busy, Ready}
use Rattle.ata_taskfile.specs.declared.Step.{Step}
use Rattle.ata_taskfile.specs.declared.Step.TheVariants as step
use Rattle.ata_taskfile.specs.TaskFile.{holds_reset, reset_ended}
use Rattle.ata_taskfile.specs.Bus.{walk_ended}
use Rattle.ata_taskfile.specs.Data.{moves_by_bus}
use Rattle.ata_taskfile.specs.Access.{accessed}
use Rattle.ata_taskfile.specs.Accesses.{all_accessed}
use Rattle.ata_taskfile.specs.Device.{Device, with_bus}
use Rattle.ata_taskfile.proofs.Cells.{accessed-sectors}
use Rattle.plain_drive.specs.Plain.{Plain, with_registers}
use Rattle.plain_drive.specs.Change.{change_made}
use Rattle.plain_drive.specs.Step.{step_made, good_step_in, bad_step_in, proceeded, sector_given, transferred, walked, first_wanted, next_wanted, offered, ended, without_walk}
use Rattle.plain_drive.specs.Physical.{Physical, seen}
use Rattle.schedule_text.specs.declared.Event.{Event}
use Rattle.schedule_text.specs.declared.Event.TheVariants as event
use Rattle.plain_run.specs.Entry.{Entry}
use Rattle.plain_run.specs.Guest.{accesses_of}
use Rattle.plain_run.specs.Run.{IsDriveRun, physical_event}
use Rattle.plain_run.proofs.Kept.{after_length, destaged_length}

-- no access changes how many sectors the drive says it has
pub accesses_sectors : (accesses : List Access) (d : Device) → (all_accessed accesses d).sectors ≡ d.sectors
accesses_sectors [] d = refl
accesses_sectors (a ∷ accesses) d = accesses_sectors accesses (accessed a d) ∙ accessed-sectors a d

-- nor does a step
chosen_sectors : (b : Bool) (n : ℕ) (p q : Plain) → p.device.sectors ≡ n → q.device.sectors ≡ n
    → (if b then p else q).device.sectors ≡ n
chosen_sectors true n p q one other = one
chosen_sectors false n p q one other = other

walk_sectors : (form : Form) (p : Plain) → (without_walk form p).device.sectors ≡ p.device.sectors
walk_sectors form p = chosen_sectors (moves_by_bus form) p.device.sectors
    (record p { device = with_bus (walk_ended p.device.bus) p.device }) p refl refl

proceeded_sectors : (form : Form) (order : Request) (done : ℕ) (p : Plain)
    → (proceeded form order done p).device.sectors ≡ p.device.sectors
proceeded_sectors NoMove order done p = refl
proceeded_sectors PioIn order done p = refl
proceeded_sectors PioOut order done p =
    chosen_sectors (done == 0) p.device.sectors (first_wanted order p) (next_wanted order done p) refl
    (chosen_sectors (nat_lt done order.count) p.device.sectors (offered order done [] p) (ended p) refl refl)
proceeded_sectors DmaIn order done p =
    chosen_sectors (nat_lt done order.count) p.device.sectors (sector_given order done p) (transferred order p) refl
    (walk_sectors order.form p)
proceeded_sectors DmaOut order done p =
    chosen_sectors (nat_lt done order.count) p.device.sectors (walked order done p) (transferred order p) refl
    (walk_sectors order.form p)

stepped_sectors : (phase : Phase) (p : Plain) → (good_step_in phase p).device.sectors ≡ p.device.sectors
stepped_sectors Reset p = chosen_sectors (holds_reset p.device.file) p.device.sectors p
    (with_registers (reset_ended p.device.file) p) refl refl
stepped_sectors Idle p = refl
stepped_sectors (Ready taken done left) p = refl
stepped_sectors (Busy (Bad reason) done) p = refl
stepped_sectors (Busy (Good order) done) p = proceeded_sectors order.form order done p

failed_sectors : (phase : Phase) (p : Plain) → (bad_step_in phase p).device.sectors ≡ p.device.sectors
failed_sectors Reset p = refl
failed_sectors Idle p = refl
failed_sectors (Ready taken done left) p = refl
failed_sectors (Busy (Bad reason) done) p = refl
failed_sectors (Busy (Good order) done) p = walk_sectors order.form p

step_sectors : (s : Step) (p : Plain) → (step_made s p).device.sectors ≡ p.device.sectors
step_sectors step.Good p = stepped_sectors p.device.file.phase p
step_sectors step.Bad p = failed_sectors p.device.file.phase p

pub event_sectors : (one : Event) (q : Physical) → (physical_event one q).sectors ≡ q.sectors
event_sectors (event.Drive s) q = step_sectors s (seen q)
event_sectors (event.Destage k) q = refl
event_sectors event.Cut q = refl
event_sectors (event.WriteMemory address bytes) q = refl
event_sectors one q = accesses_sectors (accesses_of one) (seen q).device

-- or how many it keeps
pub event_length : (one : Event) (q : Physical) → length (physical_event one q).kept.durable ≡ length q.kept.durable
event_length (event.Drive s) q = after_length (change_made s (seen q)) q.kept
event_length (event.Destage k) q = destaged_length k q.kept
event_length one q = refl

-- so a run has as many sectors at its end as at its start
pub run_sectors : (start now : Physical) (entries : List Entry) → IsDriveRun start entries now
    → now.sectors ≡ start.sectors
run_sectors start now [] run = ap (λ (q : Physical). q.sectors) run
run_sectors start now (entry ∷ earlier) (before, run, last) =
    ap (λ (q : Physical). q.sectors) last.after ∙ event_sectors entry.event before
    ∙ run_sectors start before earlier run

pub run_length : (start now : Physical) (entries : List Entry) → IsDriveRun start entries now
    → length now.kept.durable ≡ length start.kept.durable
run_length start now [] run = ap (λ (q : Physical). length q.kept.durable) run
run_length start now (entry ∷ earlier) (before, run, last) =
    ap (λ (q : Physical). length q.kept.durable) last.after ∙ event_length entry.event before
    ∙ run_length start before earlier run
