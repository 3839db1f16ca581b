use Rattle.std.proofs.Common.{refl}
use Rattle.monitor_state.proofs.CutSectors.{cut_left}
use Rattle.monitor_state.proofs.cuts.a_cut_leaves_what_the_plain_drive_may_have.Goals as goal

pub returns : goal.returns
returns c = cut_left (λ values. (c.one_outcome_without_writes.ensures values values).1 refl)
