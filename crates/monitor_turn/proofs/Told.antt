-- What a turn tells of commands and of opening.
use Rattle.std.proofs.Common.{◌≡◌, ◌+◌, ◌≤◌, ℕ, true, [], ◌∷◌, refl, arith}
use Rattle.ata_taskfile.specs.declared.Taken.{Taken}
use Rattle.ata_taskfile.specs.declared.Phase.TheVariants.{Idle, Busy}
use Rattle.ata_taskfile.specs.declared.task_file.TaskFile.{TaskFile}
use Rattle.own_pio.specs.declared.job.OwnJob.TheVariants.{Read}
use Rattle.own_pio.specs.Job.{job_order}
use Rattle.port_lease.specs.Free.{is_free}
use Rattle.schedule_text.specs.declared.Item.TheVariants as item
use Rattle.schedule_text.specs.Taken.{command_item, commands_due}
use Rattle.streaming.proofs.Untold.{none_due}
use Rattle.monitor_state.specs.declared.parts.Parts.{Parts}
use Rattle.monitor_turn.specs.Turned.{KeepsImage}

pub same_image : (p : Parts) → KeepsImage p p
same_image p = record { area = refl; id = refl; opening = λ opened. refl; bitmap = λ opened. refl }

-- and none where the registers stayed
pub none_anew : (f : TaskFile) → [] ≡ commands_due f f
none_anew f = none_due f f (λ just. just)

-- a free drive is idle
pub free_idle : (f : TaskFile) → is_free f ≡ true → f.phase ≡ Idle
free_idle f free = grind arith

-- a command that was given to a free drive is told
pub given_due : (f g : TaskFile) (byte : ℕ) (order : Taken) → f.phase ≡ Idle → g.phase ≡ Busy order 0
    → g.command ≡ byte → commands_due f g ≡ command_item byte order ∷ []
given_due f g byte order idle at is = grind (arith, idle, at, is)

-- a read within the disk is told by its sectors
pub read_told : (first count sectors : ℕ) → first + count ≤ sectors
    → command_item 32 (job_order (Read first count) sectors) ≡ item.Command 32 first count
read_told first count sectors within = grind arith
