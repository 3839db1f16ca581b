use Rattle.guest_view.proofs.DrivesWork.{work_left, rests_on, runs_on, bus_alone, flies_on, stays_calm}
use Rattle.guest_view.proofs.laws.accesses_leave_the_drives_work.Goals as goal

pub returns-clause-left : goal.returns-clause-left
returns-clause-left c = work_left

pub returns-clause-rests : goal.returns-clause-rests
returns-clause-rests c = rests_on

pub returns-clause-runs : goal.returns-clause-runs
returns-clause-runs c = runs_on

pub returns-clause-alone : goal.returns-clause-alone
returns-clause-alone c = bus_alone

pub returns-clause-flies : goal.returns-clause-flies
returns-clause-flies c = flies_on

pub returns-clause-calm : goal.returns-clause-calm
returns-clause-calm c = stays_calm
