use Rattle.std.proofs.Common.{ap, ◌∙◌}
use Rattle.ata_taskfile.specs.declared.task_file.TaskFile.{TaskFile}
use Rattle.plain_drive.specs.Plain.{with_registers}
use Rattle.plain_drive.specs.Change.{leaves}
use Rattle.drive_model.specs.Drive.{physical_of, worked}
use Rattle.drive_model.proofs.Worked.{refused_ends}
use Rattle.drive_model.proofs.drive.Drive.refuse.Goals as goal

pub returns-clause-after : goal.returns-clause-after
returns-clause-after g c = λ step memory.
    c.put_file.ensures.after memory
    ∙ ap (λ (file : TaskFile). worked leaves (with_registers file) (physical_of c.args.self.now memory))
    c.refuse.ensures
    ∙ refused_ends step c.args.reason c.args.done (physical_of c.args.self.now memory) c.requires
