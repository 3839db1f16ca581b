use Rattle.plain_drive.proofs.Likeness.{answers_alike}
use Rattle.plain_drive.proofs.alike.alike_drives_answer_alike.Goals as goal

pub returns : goal.returns
returns c = λ access d e alike. answers_alike d e alike access
