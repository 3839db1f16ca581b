use Rattle.std.proofs.Common.{subst, sym}
use Rattle.monitor_state.specs.Hand.{HasInHand}
use Rattle.monitor_state.specs.Pieces.{tidied}
use Rattle.monitor_state.proofs.ViewSteps.{moved_in_hand, offered_in_hand, reset_in_hand}
use Rattle.monitor_state.proofs.in_hand.the_views_steps_keep_what_is_in_hand.Goals as goal

pub returns-clause-reset : goal.returns-clause-reset
returns-clause-reset c v p = reset_in_hand v.file.phase v p

pub returns-clause-offer : goal.returns-clause-offer
returns-clause-offer c v p order done is form held some has =
    offered_in_hand v p order done form held some (subst (λ phase. HasInHand phase v p) is has)

pub returns-clause-moved : goal.returns-clause-moved
returns-clause-moved c v w p order from to old new further form same ends has =
    subst (λ phase. HasInHand phase w (tidied phase p)) (sym new)
    (moved_in_hand v w p order from to further form same ends (subst (λ phase. HasInHand phase v p) old has))
