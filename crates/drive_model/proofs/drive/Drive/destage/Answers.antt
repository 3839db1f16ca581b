use Rattle.std.proofs.Common.{[]}
use Rattle.std.proofs.lemmas.Result.{on_ok_weaker}
use Rattle.drive_model.specs.Drive.{physical_of}
use Rattle.drive_model.proofs.Worked.{kept_becomes}
use Rattle.drive_model.proofs.drive.Drive.destage.Goals as goal

pub returns-clause-after : goal.returns-clause-after
returns-clause-after g c = on_ok_weaker c.destage.result
    (kept_becomes (physical_of c.args.self.now []) _ _ _ _ _ c.destage.ensures.called.count) c.destage.ensures.after
