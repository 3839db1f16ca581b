-- What contracts see of an own command.
use Rattle.std.specs.Prelude.{ℕ}
use Rattle.own_pio.specs.declared.job.OwnJob.{OwnJob}
use Rattle.own_pio.specs.declared.own.Own.{Own}
use Rattle.own_pio.specs.Poll.{done_by}

-- the job of an own command
abbrev pub job_of : Own → OwnJob
job_of own = own.job

-- the polls that are left of an own command
abbrev pub polls_left : Own → ℕ
polls_left own = own.left

-- how many blocks of an own command went
abbrev pub done_of : Own → ℕ
done_of own = done_by own.job own.left
