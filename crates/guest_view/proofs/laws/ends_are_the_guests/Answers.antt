use Rattle.guest_view.proofs.DriveSteps.{transfer_stepped, transfer_acts, end_stepped, end_acts}
use Rattle.guest_view.proofs.laws.ends_are_the_guests.Goals as goal

pub returns-clause-transfer : goal.returns-clause-transfer
returns-clause-transfer c = transfer_stepped

pub returns-clause-transfer_acts : goal.returns-clause-transfer_acts
returns-clause-transfer_acts c = transfer_acts

pub returns-clause-without_data : goal.returns-clause-without_data
returns-clause-without_data c = end_stepped

pub returns-clause-without_data_acts : goal.returns-clause-without_data_acts
returns-clause-without_data_acts c = end_acts
