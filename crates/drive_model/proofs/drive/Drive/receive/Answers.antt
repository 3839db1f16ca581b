use Rattle.std.proofs.Common.{[]}
use Rattle.drive_model.specs.Drive.{physical_of}
use Rattle.drive_model.proofs.Told.{same_told}
use Rattle.drive_model.proofs.Worked.{first_becomes}
use Rattle.drive_model.proofs.drive.Drive.receive.Goals as goal

pub returns-then-done-eq0-clause-after : goal.returns-then-done-eq0-clause-after
returns-then-done-eq0-clause-after g c =
    let stays = same_told _ _ c.want_first.ensures.sectors in
    first_becomes c.args.order c.args.done (physical_of c.args.self.now []) _ _ _ c.if-done-eq0.true
    stays c.want_first.ensures.after
