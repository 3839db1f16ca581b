use Rattle.streaming.proofs.ToldCommands.{accessed_told, let_go_told, stepped_told}
use Rattle.streaming.proofs.events.the_command_in_hand_was_told.Goals as goal

pub returns-clause-accesses : goal.returns-clause-accesses
returns-clause-accesses c = accessed_told

pub returns-clause-stepped : goal.returns-clause-stepped
returns-clause-stepped c = stepped_told

pub returns-clause-let_go : goal.returns-clause-let_go
returns-clause-let_go c = let_go_told
