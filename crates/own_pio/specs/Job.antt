-- What an own command is to do.
use Rattle.std.specs.Prelude.{◌≡◌, ℕ, Bool, true, false, ◌+◌, ◌^◌, ◌<◌, ◌≤◌}
use Rattle.ata_taskfile.specs.declared.Kind.TheVariants as kind
use Rattle.ata_taskfile.specs.declared.Form.TheVariants.{NoMove, PioIn, PioOut}
use Rattle.ata_taskfile.specs.declared.Request.{Request}
use Rattle.ata_taskfile.specs.declared.Taken.{Taken}
use Rattle.ata_taskfile.specs.declared.registers.TheConstants.{READ_SECTORS, WRITE_SECTORS, FLUSH_CACHE}
use Rattle.ata_taskfile.specs.Order.{taken, within}
use Rattle.own_pio.specs.declared.job.OwnJob.{OwnJob}
use Rattle.own_pio.specs.declared.job.TheConstants.{MOST_MOVED}
use Rattle.own_pio.specs.declared.job.OwnJob.TheVariants.{Read, Write, Flush}

-- the first sector of a job; 0 of a flush
abbrev pub first_of : OwnJob → ℕ
first_of (Read first count) = first
first_of (Write first count) = first
first_of Flush = 0

-- how many sectors a job moves
abbrev pub count_of : OwnJob → ℕ
count_of (Read first count) = count
count_of (Write first count) = count
count_of Flush = 0

-- how many polls that aren't Waiting a job takes: one for each block, and one more where the drive is at
-- work after the last (own)
abbrev pub polls_of : OwnJob → ℕ
polls_of (Read first count) = count
polls_of (Write first count) = count + 1
polls_of Flush = 1

-- the command of a job (ATA/ATAPI-6, READ SECTOR(S), WRITE SECTOR(S), FLUSH CACHE)
abbrev pub command_of : OwnJob → ℕ
command_of (Read first count) = READ_SECTORS
command_of (Write first count) = WRITE_SECTORS
command_of Flush = FLUSH_CACHE

-- what a job asks the drive for
abbrev pub job_request : OwnJob → Request
job_request (Read first count) =
    record { kind = kind.Read; form = PioIn; extended = false; first = first; count = count }
job_request (Write first count) =
    record { kind = kind.Write; form = PioOut; extended = false; first = first; count = count }
job_request Flush =
    record { kind = kind.Flush; form = NoMove; extended = false; first = 0; count = 0 }

-- the order that a drive of so many sectors makes of a job
abbrev pub job_order : OwnJob → ℕ → Taken
job_order job sectors = taken (within sectors (job_request job))

-- sectors that a command of 28 bits can name, and no more than the monitor moves at once (own)
pub record IsNamed (first count : ℕ) : Type 0 where
  pub some : 0 < count
  pub few : count ≤ MOST_MOVED
  pub below : first + count ≤ 2 ^ 28

-- a job that moves sectors
abbrev pub moves_blocks : OwnJob → Bool
moves_blocks (Read first count) = true
moves_blocks (Write first count) = true
moves_blocks Flush = false

-- a job as `begin` takes it: a command can name the sectors that it moves
pub record IsFit (job : OwnJob) : Type 0 where
  pub named : moves_blocks job ≡ true → IsNamed (first_of job) (count_of job)
