use Rattle.fill_store.proofs.Stored.{cut_stores, cut_stores_no_other, cut_stores_set}
use Rattle.fill_store.proofs.laws.a_cut_stores_between_the_sets.Goals as goal

pub returns : goal.returns
returns c = record { least = cut_stores; most = cut_stores_no_other; exact = cut_stores_set }
