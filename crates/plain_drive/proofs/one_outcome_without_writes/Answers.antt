use Rattle.std.proofs.Common.{List, ℕ, subst, sym}
use Rattle.plain_drive.specs.Plain.{stored}
use Rattle.plain_drive.specs.Cut.{IsOutcome}
use Rattle.plain_drive.proofs.Outcomes.{outcome_is_values, values_are_outcome}
use Rattle.plain_drive.proofs.one_outcome_without_writes.Goals as goal

pub returns : goal.returns
returns c = λ vs os. (
  outcome_is_values vs os,
  λ e. let P : List (List ℕ) → Type 0 = λ l. IsOutcome (stored vs) l in subst P (sym e) (values_are_outcome vs),
)
