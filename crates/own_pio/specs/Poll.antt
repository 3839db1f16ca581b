-- What a poll answers and changes.
use Rattle.std.specs.Prelude.{ℕ, Bool, true, false, ◌-◌, ◌*◌, ◌==◌, if◌then◌else◌, List}
use Rattle.ata_taskfile.specs.declared.registers.TheConstants.{SECTOR_BYTES, BSY, DRQ, ERR}
use Rattle.ata_taskfile.specs.declared.task_file.TaskFile.{TaskFile}
use Rattle.ata_taskfile.specs.TaskFile.{has_bit, status}
use Rattle.ata_taskfile.specs.Device.{Device}
use Rattle.plain_drive.specs.Words.{bytes_of}
use Rattle.own_pio.specs.declared.job.OwnJob.{OwnJob}
use Rattle.own_pio.specs.declared.job.OwnJob.TheVariants.{Read, Write, Flush}
use Rattle.own_pio.specs.declared.Poll.{Poll}
use Rattle.own_pio.specs.declared.Poll.TheVariants.{Waiting, Moved, Done, Failed}
use Rattle.own_pio.specs.Job.{polls_of}
use Rattle.own_pio.specs.Moving.{put_over}

-- how many blocks of a job went, by the polls that are left
abbrev pub done_by : OwnJob → ℕ → ℕ
done_by job left = polls_of job - left

-- the block that goes is the last of a read, with which the command ends
abbrev pub is_last : OwnJob → ℕ → Bool
is_last (Read first count) left = left == 1
is_last (Write first count) left = false
is_last Flush left = false

-- what a poll answers at which a block goes
abbrev pub block_answer : OwnJob → ℕ → Poll
block_answer job left = if is_last job left then Done else Moved

-- what a poll answers, by Status: BSY, ERR, DRQ, in this order (ATA/ATAPI-6, Status register)
abbrev pub answer_of : OwnJob → ℕ → TaskFile → Poll
answer_of job left f =
    if has_bit BSY (status f) then Waiting else
    if has_bit ERR (status f) then Failed else
    if has_bit DRQ (status f) then block_answer job left else
    Done

-- the command goes on
abbrev pub goes_on : Poll → Bool
goes_on Waiting = true
goes_on Moved = true
goes_on Done = false
goes_on Failed = false

-- the polls left after a poll
abbrev pub left_after : Poll → ℕ → ℕ
left_after Waiting left = left
left_after Moved left = left - 1
left_after Done left = 0
left_after Failed left = 0

-- the bytes of a read after a poll: the block that went, at its place
abbrev pub bytes_read : Poll → ℕ → Device → List ℕ → List ℕ
bytes_read Waiting done d bytes = bytes
bytes_read Moved done d bytes = put_over (SECTOR_BYTES * done) (bytes_of d.block) bytes
bytes_read Done done d bytes = put_over (SECTOR_BYTES * done) (bytes_of d.block) bytes
bytes_read Failed done d bytes = bytes

-- the bytes of a job after a poll; those of a write stay
abbrev pub bytes_after : OwnJob → Poll → ℕ → Device → List ℕ → List ℕ
bytes_after (Read first count) poll done d bytes = bytes_read poll done d bytes
bytes_after (Write first count) poll done d bytes = bytes
bytes_after Flush poll done d bytes = bytes
