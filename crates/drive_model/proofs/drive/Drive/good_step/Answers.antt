use Rattle.std.proofs.Common.{ap, sym, ◌∙◌}
use Rattle.ata_taskfile.specs.declared.Phase.{Phase}
use Rattle.ata_taskfile.specs.declared.Step.TheVariants.{Good}
use Rattle.plain_drive.specs.Physical.{seen}
use Rattle.plain_drive.specs.Step.{acts_in, stepped_if}
use Rattle.drive_model.specs.Drive.{physical_of}
use Rattle.drive_model.proofs.Told.{same_told, becomes_same}
use Rattle.drive_model.proofs.drive.Drive.good_step.Goals as goal

pub returns-in-Reset-clause-answer : goal.returns-in-Reset-clause-answer
returns-in-Reset-clause-answer g c =
    c.end_reset.ensures.answer c.args.memory.now
    ∙ ap (λ (phase : Phase). stepped_if (acts_in Good phase (seen (physical_of c.args.self.now c.args.memory.now))))
    (sym c.in-Reset.is)

pub returns-in-Busy-Bad-default-clause-after : goal.returns-in-Busy-Bad-default-clause-after
returns-in-Busy-Bad-default-clause-after g c =
    let stays = same_told _ _ c.refuse.ensures.sectors in
    becomes_same _ _ _ stays (c.refuse.ensures.after Good c.args.memory.now)
