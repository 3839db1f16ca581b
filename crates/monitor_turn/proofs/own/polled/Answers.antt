use Rattle.monitor_turn.proofs.own.polled.Goals as goal

pub returns-in-Opening-clause-shown : goal.returns-in-Opening-clause-shown
returns-in-Opening-clause-shown g c = rw c.in-Opening.is c.polled_opening.ensures.shown

pub returns-in-Piece-clause-shown : goal.returns-in-Piece-clause-shown
returns-in-Piece-clause-shown g c = rw c.in-Piece.is c.polled_piece.ensures.shown
