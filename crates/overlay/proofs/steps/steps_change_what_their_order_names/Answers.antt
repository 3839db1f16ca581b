use Rattle.overlay.proofs.StepChanges.{step_flushes, step_writes}
use Rattle.overlay.proofs.steps.steps_change_what_their_order_names.Goals as goal

pub returns-clause-writes : goal.returns-clause-writes
returns-clause-writes c = step_writes

pub returns-clause-flushes : goal.returns-clause-flushes
returns-clause-flushes c = λ s p lawful is. step_flushes s p is
