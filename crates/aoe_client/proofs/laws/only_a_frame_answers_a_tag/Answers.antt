use Rattle.aoe_client.proofs.Outlasting.{on_sending, on_ticks}
use Rattle.aoe_client.proofs.laws.only_a_frame_answers_a_tag.Goals as goal

pub returns-clause-sending : goal.returns-clause-sending
returns-clause-sending c = on_sending

pub returns-clause-ticks : goal.returns-clause-ticks
returns-clause-ticks c = on_ticks
