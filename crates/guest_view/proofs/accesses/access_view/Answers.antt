use Rattle.std.proofs.Common.{ap}
use Rattle.ata_taskfile.specs.declared.Answer.TheVariants as answer
use Rattle.guest_view.proofs.accesses.access_view.Goals as goal

pub returns-in-Read8-clause-answer : goal.returns-in-Read8-clause-answer
returns-in-Read8-clause-answer g c = λ device given. rw c.in-Read8.is (ap answer.Byte (c.read8.ensures.answer device))
