use Rattle.fill_store.proofs.OpeningCuts.{ended_stored, ended_filled, ended_kept}
use Rattle.fill_store.proofs.laws.an_ended_opening_has_the_stored_blocks.Goals as goal

pub returns : goal.returns
returns c = record {
  stored = λ disk o sets cells opens none. ended_stored disk o sets cells
      (c.current_values_are_an_outcome.ensures cells) opens none;
  filled = ended_filled;
  kept = ended_kept;
}
