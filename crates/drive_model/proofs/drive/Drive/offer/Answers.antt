use Rattle.std.proofs.Common.{ap, ◌∙◌}
use Rattle.ata_taskfile.specs.declared.task_file.TaskFile.{TaskFile}
use Rattle.plain_drive.specs.Plain.{Plain, with_registers, with_block}
use Rattle.plain_drive.specs.Change.{leaves}
use Rattle.drive_model.specs.Block.{block_of}
use Rattle.drive_model.specs.Drive.{physical_of, worked}
use Rattle.drive_model.proofs.drive.Drive.offer.Goals as goal

pub returns-clause-after : goal.returns-clause-after
returns-clause-after g c = λ memory.
    c.put_block.ensures.after memory
    ∙ ap (λ (file : TaskFile). worked leaves
    (λ (p : Plain). with_registers file (with_block (block_of c.args.block c.args.words) p))
    (physical_of c.args.self.now memory)) c.interrupt_in.ensures
