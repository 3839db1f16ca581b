use Rattle.fill_store.proofs.OpeningCuts.{opening_cut, opening_view}
use Rattle.fill_store.proofs.laws.a_cut_in_an_opening_stores_what_was_stored.Goals as goal

pub returns : goal.returns
returns c = record { blocks = opening_cut; view = opening_view }
