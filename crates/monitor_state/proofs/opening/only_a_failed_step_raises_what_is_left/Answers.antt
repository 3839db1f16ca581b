use Rattle.std.proofs.Common.{refl}
use Rattle.monitor_state.proofs.OpeningLeft.{same_left, same_status}
use Rattle.monitor_state.proofs.opening.only_a_failed_step_raises_what_is_left.Goals as goal

pub returns-clause-accessed : goal.returns-clause-accessed
returns-clause-accessed c = λ s p waits v a d. same_left s p p d _ refl (same_status waits v a d)
