use Rattle.fill_store.proofs.Settles.{settles_within}
use Rattle.fill_store.proofs.laws.a_settling_may_be_dropped.Goals as goal

pub returns : goal.returns
returns c = record {
  kept = λ id durable s sets cells settles. settles.kept;
  filled = settles_within;
}
