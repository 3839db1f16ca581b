use Rattle.monitor_state.proofs.HeldPieces.{piece_of_pool, piece_on_disk}
use Rattle.monitor_state.proofs.laws.held_pieces_are_of_the_parts.Goals as goal

pub returns-clause-lease : goal.returns-clause-lease
returns-clause-lease c = piece_of_pool

pub returns-clause-end : goal.returns-clause-end
returns-clause-end c = piece_on_disk
