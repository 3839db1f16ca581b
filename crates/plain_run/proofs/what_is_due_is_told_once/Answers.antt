use Rattle.std.proofs.Common.{ap, ◌∙◌}
use Rattle.plain_run.specs.Entry.{answers_in, plan_in, commands_in}
use Rattle.plain_run.proofs.Told.{answers_told, plan_told, commands_told}
use Rattle.plain_run.proofs.what_is_due_is_told_once.Goals as goal

pub returns-clause-answers : goal.returns-clause-answers
returns-clause-answers c = λ old new entry one. ap answers_in one.items ∙ answers_told entry.event old new

pub returns-clause-plan : goal.returns-clause-plan
returns-clause-plan c = λ old new entry one. ap plan_in one.items ∙ plan_told entry.event old new

pub returns-clause-commands : goal.returns-clause-commands
returns-clause-commands c = λ old new entry one. ap commands_in one.items ∙ commands_told entry.event old new
