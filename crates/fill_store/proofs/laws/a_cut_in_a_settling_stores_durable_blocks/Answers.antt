use Rattle.fill_store.proofs.Stored.{cut_header, cut_stores, cut_stores_no_other}
use Rattle.fill_store.proofs.laws.a_cut_in_a_settling_stores_durable_blocks.Goals as goal

pub returns : goal.returns
returns c = record {
  header = λ id durable s sets cells outcome settles left. cut_header s.area id sets.stored durable
      cells outcome settles.kept left;
  stored = λ id durable s sets cells outcome settles left. cut_stores s.area id sets.stored durable
      cells outcome settles.kept left;
  durable = λ id durable s sets cells outcome settles left. cut_stores_no_other s.area id sets.stored
      durable cells outcome settles.kept left;
}
