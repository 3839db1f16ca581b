use Rattle.overlay.proofs.StepChanges.{step_leaves, step_stays, went_leaves}
use Rattle.overlay.proofs.steps.reads_leave_the_sectors.Goals as goal

pub returns-clause-step : goal.returns-clause-step
returns-clause-step c = step_leaves

pub returns-clause-phase : goal.returns-clause-phase
returns-clause-phase c = step_stays

pub returns-clause-went : goal.returns-clause-went
returns-clause-went c = went_leaves
