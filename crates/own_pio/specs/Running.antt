-- A drive with an own command.
use Rattle.std.specs.Prelude.{◌≡◌, ℕ, Bool, true, false, ◌||◌, ◌==◌, ◌<◌}
use Rattle.std.proofs.Props.{props}
use Rattle.ata_taskfile.specs.declared.registers.TheConstants.{DEV, NIEN, BLOCK_WORDS}
use Rattle.ata_taskfile.specs.declared.Taken.TheVariants.{Good}
use Rattle.ata_taskfile.specs.declared.Taken.{Taken}
use Rattle.ata_taskfile.specs.declared.Phase.{Phase}
use Rattle.ata_taskfile.specs.declared.Phase.TheVariants.{Reset, Idle, Busy, Ready}
use Rattle.ata_taskfile.specs.TaskFile.{has_bit, line}
use Rattle.ata_taskfile.specs.Device.{Device}
use Rattle.own_pio.specs.declared.job.OwnJob.{OwnJob}
use Rattle.own_pio.specs.declared.job.OwnJob.TheVariants.{Read, Write, Flush}
use Rattle.own_pio.specs.Job.{moves_blocks, count_of, job_order, job_request, command_of}
use Rattle.own_pio.specs.Named.{nien_of}

-- a job of which so many blocks went has come to its end where the drive is idle: a read ends with its
-- last block, in the poll that takes it
abbrev pub may_end : OwnJob → ℕ → Bool
may_end (Read first count) done = false
may_end (Write first count) done = done == count
may_end Flush done = true

-- a block of a job waits in Data, or is wanted there
pub record IsOffered (job : OwnJob) (done : ℕ) (order : Taken)
    (position left sectors : ℕ) : Type 0 where
  pub moves : moves_blocks job ≡ true
  pub below : done < count_of job
  pub order_is : order ≡ job_order job sectors
  pub good : order ≡ Good (job_request job)
  pub position_is : position ≡ done
  pub whole : left ≡ BLOCK_WORDS

-- the drive is at work on a job
pub record IsAtWork (job : OwnJob) (done : ℕ) (order : Taken)
    (position sectors : ℕ) : Type 0 where
  pub order_is : order ≡ job_order job sectors
  pub position_is : position ≡ done

-- where a drive of so many sectors stands with a job of which so many blocks went, by the phase and by whether
-- the last command failed; it says nothing of what the sectors hold (own)
abbrev pub StandsIn : Phase → Bool → OwnJob → ℕ → ℕ → Type 0
StandsIn Reset failed job done sectors = ⊥
StandsIn Idle failed job done sectors = (failed || may_end job done) ≡ true
StandsIn (Busy order position) failed job done sectors = IsAtWork job done order position sectors
StandsIn (Ready order position left) failed job done sectors =
    IsOffered job done order position left sectors

-- the drive has a job's command in hand, of which so many blocks went, or has ended it unseen; nIEN is
-- 1, so the guest sees nothing of it; and Error is 00h where it didn't fail
pub record IsRunning (job : OwnJob) (done : ℕ) (d : Device) : Type 0 where
  pub masked : d.file.control ≡ NIEN
  pub selected : has_bit DEV d.file.device ≡ false
  pub stands : StandsIn d.file.phase d.file.failed job done d.sectors
  pub well : d.file.failed ≡ false → d.file.error ≡ 0

-- where a drive stands with a job has one proof at most
StandsIn-prop : (phase : Phase) (failed : Bool) (job : OwnJob) (done sectors : ℕ)
    → IsProp (StandsIn phase failed job done sectors)
StandsIn-prop Reset failed job done sectors = hlevel props
StandsIn-prop Idle failed job done sectors = hlevel props
StandsIn-prop (Busy order position) failed job done sectors = hlevel props
StandsIn-prop (Ready order position left) failed job done sectors = hlevel props

-- that a job runs has one proof at most, so a ghost field may say it
pub IsRunning-prop : (job : OwnJob) (done : ℕ) (d : Device) → IsProp (IsRunning job done d)
IsRunning-prop job done d = hlevel (props, StandsIn-prop)

-- a drive that has just taken a job's command, with nIEN at 1 or 0: nothing but registers changed
pub record IsBegun (masked : Bool) (job : OwnJob) (old new : Device) : Type 0 where
  pub control : new.file.control ≡ nien_of masked
  pub selected : has_bit DEV new.file.device ≡ false
  pub phase : new.file.phase ≡ Busy (job_order job old.sectors) 0
  pub command : new.file.command ≡ command_of job
  pub unpended : new.file.pending ≡ false
  pub well : new.file.error ≡ 0
  pub bus : new.bus ≡ old.bus
  pub block : new.block ≡ old.block
  pub cells : new.cells ≡ old.cells
  pub sectors : new.sectors ≡ old.sectors

-- the guest sees nothing of what the monitor did: line and bus master are as they were, and so are the sectors
pub record IsUnseen (old new : Device) : Type 0 where
  pub line : line new.file ≡ line old.file
  pub bus : new.bus ≡ old.bus
  pub cells : new.cells ≡ old.cells
  pub sectors : new.sectors ≡ old.sectors
