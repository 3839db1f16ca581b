use Rattle.std.proofs.Common.{[], ◌∙◌}
use Rattle.plain_drive.specs.Change.{change_without_data}
use Rattle.plain_drive.specs.Step.{ended}
use Rattle.drive_model.specs.Drive.{physical_of}
use Rattle.drive_model.proofs.Told.{same_told}
use Rattle.drive_model.proofs.Worked.{ended_blind, ended_still, worked_becomes}
use Rattle.drive_model.proofs.drive.Drive.end_without_data.Goals as goal

pub returns-clause-after : goal.returns-clause-after
returns-clause-after g c =
    let stays = same_told _ _ c.end.ensures.sectors in
    worked_becomes ended ended_blind (change_without_data c.args.order.kind) (physical_of c.args.self.now [])
    _ _ _ _ _ _
    c.in_ok-carry_out.ensures.called.count stays
    (λ memory. c.end.ensures.after memory ∙ ended_still c.args.order _ c.requires.still)
    c.in_ok-carry_out.ensures.after
