use Rattle.std.proofs.Common.{◌≡◌, refl}
use Rattle.plain_drive.specs.Cells.{value_at}
use Rattle.fill_store.proofs.Values.{flush_forgets, each_flushed}
use Rattle.fill_store.proofs.laws.a_flush_leaves_the_newest_values.Goals as goal

pub returns : goal.returns
returns c = record {
  forgotten = flush_forgets;
  newest = λ cells s. each_flushed (λ value. value ≡ value_at s cells) s cells refl;
}
