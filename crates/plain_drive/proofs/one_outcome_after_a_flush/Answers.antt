use Rattle.std.proofs.Common.{map, subst, sym}
use Rattle.plain_drive.specs.Plain.{current, stored}
use Rattle.plain_drive.specs.Cut.{IsOutcome}
use Rattle.plain_drive.proofs.Cells.{all_flushed-stored}
use Rattle.plain_drive.proofs.Outcomes.{outcome_is_values, values_are_outcome}
use Rattle.plain_drive.proofs.one_outcome_after_a_flush.Goals as goal

pub returns : goal.returns
returns c = λ cells os. (
  λ h. outcome_is_values (map current cells) os (subst (λ store. IsOutcome store os) (all_flushed-stored cells) h),
  λ e. subst (λ store. IsOutcome store os) (sym (all_flushed-stored cells))
      (subst (IsOutcome (stored (map current cells))) (sym e) (values_are_outcome (map current cells))),
)
