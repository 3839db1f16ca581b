use Rattle.ata_taskfile.specs.declared.Step.TheVariants.{Bad}
use Rattle.drive_model.proofs.drive.Drive.bad_step.Goals as goal

pub returns-in-Busy-Bad-default-clause-after : goal.returns-in-Busy-Bad-default-clause-after
returns-in-Busy-Bad-default-clause-after g c = λ memory. c.refuse.ensures.after Bad memory
