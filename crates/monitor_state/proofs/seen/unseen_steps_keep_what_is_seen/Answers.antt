use Rattle.monitor_state.proofs.SeenSteps.{resting_unseen, running_unseen}
use Rattle.monitor_state.proofs.seen.unseen_steps_keep_what_is_seen.Goals as goal

pub returns-clause-monitor : goal.returns-clause-monitor
returns-clause-monitor c = λ side p step answer old new q fits stepped.
    resting_unseen p step answer old new q stepped side fits

pub returns-clause-running : goal.returns-clause-running
returns-clause-running c = λ side own why p step answer old new q fits stepped.
    running_unseen p step answer old new q stepped side own why fits
