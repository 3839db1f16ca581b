use Rattle.fill_store.proofs.OpeningCuts.{others_left, either_header_left, either_bits_left}
use Rattle.fill_store.proofs.laws.a_cut_in_an_opening_leaves_old_or_new.Goals as goal

pub returns : goal.returns
returns c = record { others = others_left; header = either_header_left; bits = either_bits_left }
