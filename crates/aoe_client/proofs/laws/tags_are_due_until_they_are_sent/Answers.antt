use Rattle.aoe_client.proofs.DueTags.{all_left, due_asked}
use Rattle.aoe_client.proofs.laws.tags_are_due_until_they_are_sent.Goals as goal

pub returns-clause-asked : goal.returns-clause-asked
returns-clause-asked c count block lease = due_asked count block lease

pub returns-clause-left : goal.returns-clause-left
returns-clause-left c asking = all_left asking
