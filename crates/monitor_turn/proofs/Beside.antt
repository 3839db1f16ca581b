-- Good steps of a plain drive, which look at the byte of the last command as little as one does.
use Rattle.std.proofs.Common.{◌≡◌, ℕ, zero, suc, ◌∙◌}
use Rattle.ata_taskfile.specs.declared.Step.TheVariants as step
use Rattle.plain_drive.specs.Alike.{beside_command}
use Rattle.plain_drive.specs.Plain.{Plain}
use Rattle.plain_drive.specs.Step.{AllAct, went}
use Rattle.plain_drive.proofs.Likeness.{acts_beside, stepped_beside}

pub went_beside : (n : ℕ) (d e : Plain) → beside_command e ≡ beside_command d
    → beside_command (went n e) ≡ beside_command (went n d)
went_beside zero d e same = same
went_beside (suc n) d e same = stepped_beside (went n d) (went n e) (went_beside n d e same) step.Good

pub all_act_beside : (n : ℕ) (d e : Plain) → beside_command e ≡ beside_command d → AllAct n d → AllAct n e
all_act_beside zero d e same act = act
all_act_beside (suc n) d e same act = (
  all_act_beside n d e same act.0,
  acts_beside (went n d) (went n e) (went_beside n d e same) step.Good ∙ act.1,
)
