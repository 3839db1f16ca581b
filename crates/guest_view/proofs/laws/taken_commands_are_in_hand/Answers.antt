use Rattle.guest_view.proofs.Commands.{taken_phase, taken_byte, others_stay, ignored_view, ignored_drive}
use Rattle.guest_view.proofs.laws.taken_commands_are_in_hand.Goals as goal

pub returns-clause-order : goal.returns-clause-order
returns-clause-order c = taken_phase

pub returns-clause-byte : goal.returns-clause-byte
returns-clause-byte c = taken_byte

pub returns-clause-others : goal.returns-clause-others
returns-clause-others c = others_stay

pub returns-clause-ignored_view : goal.returns-clause-ignored_view
returns-clause-ignored_view c = ignored_view

pub returns-clause-ignored_drive : goal.returns-clause-ignored_drive
returns-clause-ignored_drive c = ignored_drive
