use Rattle.fill_store.proofs.Settles.{settles_at_first}
use Rattle.fill_store.proofs.laws.a_settling_begins_with_the_filled_blocks.Goals as goal

pub returns : goal.returns
returns c = settles_at_first
