use Rattle.aoe_client.proofs.Outlasting.{outlasts_sending, outlasts_ticks, outlasts_asking, outlasts_freeing}
use Rattle.aoe_client.proofs.laws.buffers_outlast.Goals as goal

pub returns-clause-sending : goal.returns-clause-sending
returns-clause-sending c source pool asking holds = outlasts_sending source pool asking holds

pub returns-clause-ticks : goal.returns-clause-ticks
returns-clause-ticks c source pool asking holds = outlasts_ticks source pool asking holds

pub returns-clause-asking : goal.returns-clause-asking
returns-clause-asking c source pool slot count block lease asking holds =
    outlasts_asking source pool slot count block lease asking holds

pub returns-clause-freeing : goal.returns-clause-freeing
returns-clause-freeing c source pool slot asking holds = outlasts_freeing source pool slot asking holds
