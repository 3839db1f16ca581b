-- Where no command and no end of opening is told.
use Rattle.std.proofs.Common.{◌≡◌, zero, suc, true, false, not, ◌&&◌, ℕ, Bool, [], refl, arith}
use Rattle.ata_taskfile.specs.declared.Phase.{Phase}
use Rattle.ata_taskfile.specs.declared.Phase.TheVariants.{Reset, Idle, Busy, Ready}
use Rattle.ata_taskfile.specs.declared.task_file.TaskFile.{TaskFile}
use Rattle.ata_taskfile.specs.Lawful.{is_just_taken}
use Rattle.schedule_text.specs.Taken.{commands_due, just_taken}

-- opening that has ended doesn't end again
pub never_both : (opened : Bool) → false ≡ (not opened && opened)
never_both true = refl
never_both false = refl

none_taken : (byte : ℕ) (phase : Phase) → is_just_taken phase ≡ false → [] ≡ just_taken byte phase
none_taken byte Reset not = refl
none_taken byte Idle not = refl
none_taken byte (Busy order zero) not = absurd cc
none_taken byte (Busy order (suc done)) not = refl
none_taken byte (Ready order done left) not = refl

-- no command is told where none was taken since
pub none_due : (f g : TaskFile) → (is_just_taken g.phase ≡ true → is_just_taken f.phase ≡ true)
    → [] ≡ commands_due f g
none_due f g was = grind (arith, none_taken g.command g.phase, was)
