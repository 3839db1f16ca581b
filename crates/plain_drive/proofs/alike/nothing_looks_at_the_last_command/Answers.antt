use Rattle.plain_drive.proofs.Likeness.{same_answer_beside, accessed_beside, acts_beside, stepped_beside}
use Rattle.plain_drive.proofs.alike.nothing_looks_at_the_last_command.Goals as goal

pub returns-clause-answer : goal.returns-clause-answer
returns-clause-answer c = λ access d e same. same_answer_beside d e same access

pub returns-clause-access : goal.returns-clause-access
returns-clause-access c = λ access d e same. accessed_beside d e same access

pub returns-clause-step : goal.returns-clause-step
returns-clause-step c = λ step d e same. stepped_beside d e same step

pub returns-clause-acts : goal.returns-clause-acts
returns-clause-acts c = λ step d e same. acts_beside d e same step
