-- What contracts see of a dummy read.
use Rattle.std.specs.Prelude.{ℕ, Bool}
use Rattle.own_pio.specs.declared.job.OwnJob.{OwnJob}
use Rattle.own_pio.specs.declared.job.OwnJob.TheVariants.{Read}
use Rattle.dummy_read.specs.declared.dummy.Dummy.{Dummy}

-- the sector that a dummy read reads
abbrev pub sector_of : Dummy → ℕ
sector_of dummy = dummy.sector

-- a dummy read was cancelled
abbrev pub is_cancelled : Dummy → Bool
is_cancelled dummy = dummy.cancelled

-- what a dummy read asks the drive for: one sector (own)
abbrev pub job_on : ℕ → OwnJob
job_on sector = Read sector 1
