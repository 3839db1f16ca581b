-- What an own command makes of the sectors, by where it stands.
use Rattle.std.specs.Prelude.{◌≡◌, ℕ, Bool, true, false, not, ◌==◌, ◌+◌, ◌-◌, ◌*◌, zero, suc, List}
use Rattle.ata_taskfile.specs.declared.Phase.{Phase}
use Rattle.ata_taskfile.specs.declared.Phase.TheVariants.{Reset, Idle, Busy, Ready}
use Rattle.ata_taskfile.specs.declared.registers.TheConstants.{SECTOR_BYTES, BLOCK_WORDS}
use Rattle.ata_taskfile.specs.Device.{Device, Cell}
use Rattle.plain_drive.specs.Plain.{appended, all_flushed, words_of}
use Rattle.plain_drive.specs.Cells.{value_at}
use Rattle.plain_drive.specs.Physical.{AreEndsOf}
use Rattle.plain_drive.specs.Words.{bytes_of}
use Rattle.own_pio.specs.declared.job.OwnJob.{OwnJob}
use Rattle.own_pio.specs.declared.job.OwnJob.TheVariants.{Read, Write, Flush}
use Rattle.own_pio.specs.declared.Poll.{Poll}
use Rattle.own_pio.specs.declared.Poll.TheVariants.{Waiting, Moved, Done, Failed}
use Rattle.own_pio.specs.Job.{first_of, count_of}
use Rattle.own_pio.specs.Moving.{put_over, words_at}
use Rattle.own_pio.specs.Poll.{done_by}

-- a store after so many sectors of the bytes were written to it, from the first one on
abbrev pub written_over : ℕ → ℕ → List ℕ → List Cell → List Cell
written_over first zero bytes cells = cells
written_over first (suc n) bytes cells =
    appended (first + n) (bytes_of (words_at BLOCK_WORDS (SECTOR_BYTES * n) bytes))
    (written_over first n bytes cells)

-- how many of the blocks of a write that went are in their cells: while the drive is at work, and where
-- it gave up, the last one isn't
abbrev pub stored_in : Phase → Bool → ℕ → ℕ
stored_in Reset failed done = done - 1
stored_in Idle true done = done - 1
stored_in Idle false done = done
stored_in (Busy order position) failed done = done - 1
stored_in (Ready order position left) failed done = done

-- the store of a flush: every current value is durable once it has ended well
abbrev pub flushed_in : Phase → Bool → List Cell → List Cell
flushed_in Reset failed cells = cells
flushed_in Idle true cells = cells
flushed_in Idle false cells = all_flushed cells
flushed_in (Busy order position) failed cells = cells
flushed_in (Ready order position left) failed cells = cells

-- the store of a job of which so many blocks went, by its bytes and the store at its begin
abbrev pub cells_in : Phase → Bool → OwnJob → ℕ → List ℕ → List Cell → List Cell
cells_in phase failed (Read first count) done bytes origin = origin
cells_in phase failed (Write first count) done bytes origin =
    written_over first (stored_in phase failed done) bytes origin
cells_in phase failed Flush done bytes origin = flushed_in phase failed origin

-- the drive is at work on a block that went, which it has still to write
abbrev pub holds_block : Phase → OwnJob → ℕ → Bool
holds_block Reset job done = false
holds_block Idle job done = false
holds_block (Busy order position) (Read first count) done = false
holds_block (Busy order position) (Write first count) done = not (done == 0)
holds_block (Busy order position) Flush done = false
holds_block (Ready order position left) job done = false

-- the words of a sector of a store
abbrev pub words_at_sector : ℕ → List Cell → List ℕ
words_at_sector s cells = words_of (value_at s cells)

-- bytes after so many sectors of a store were read into them, from the first one on
abbrev pub read_over : ℕ → ℕ → List Cell → List ℕ → List ℕ
read_over first zero cells bytes = bytes
read_over first (suc n) cells bytes =
    put_over (SECTOR_BYTES * n) (bytes_of (words_at_sector (first + n) cells))
    (read_over first n cells bytes)

-- the bytes of a job of which so many blocks went, by those at its begin
abbrev pub bytes_in : OwnJob → ℕ → List Cell → List ℕ → List ℕ
bytes_in (Read first count) done cells bytes = read_over first done cells bytes
bytes_in (Write first count) done cells bytes = bytes
bytes_in Flush done cells bytes = bytes

-- a block waits in Data for a job that reads
abbrev pub gives_block : Phase → OwnJob → Bool
gives_block Reset job = false
gives_block Idle job = false
gives_block (Busy order position) job = false
gives_block (Ready order position left) (Read first count) = true
gives_block (Ready order position left) (Write first count) = false
gives_block (Ready order position left) Flush = false

-- the sectors and the bytes are what a job of which so many blocks went makes of them, but for older values
-- that were let go; a block that waits is its sector's as it was at the begin, and the last block that went is
-- the drive's
pub record IsDoneSoFar (job : OwnJob) (done : ℕ) (bytes start : List ℕ) (origin : List Cell)
    (d : Device) : Type 0 where
  pub cells : AreEndsOf d.cells (cells_in d.file.phase d.file.failed job done bytes origin)
  pub given : gives_block d.file.phase job ≡ true
      → d.block ≡ words_at_sector (first_of job + done) origin
  pub block : holds_block d.file.phase job done ≡ true
      → d.block ≡ words_at BLOCK_WORDS (SECTOR_BYTES * (done - 1)) bytes
  pub bytes_are : bytes ≡ bytes_in job done origin start

-- the store of a job that is done
abbrev pub cells_done : OwnJob → List ℕ → List Cell → List Cell
cells_done (Read first count) bytes origin = origin
cells_done (Write first count) bytes origin = written_over first count bytes origin
cells_done Flush bytes origin = all_flushed origin

-- a job that is done: all its sectors were read, written or made durable, and older values may have been let go
pub record IsJobDone (job : OwnJob) (bytes start : List ℕ) (origin : List Cell)
    (d : Device) : Type 0 where
  pub cells : AreEndsOf d.cells (cells_done job bytes origin)
  pub bytes_are : bytes ≡ bytes_in job (count_of job) origin start

-- a job that failed: each sector of a write is old or new, and no other changed but for older values let go
pub record IsJobFailed (job : OwnJob) (done : ℕ) (bytes start : List ℕ) (origin : List Cell)
    (d : Device) : Type 0 where
  pub cells : AreEndsOf d.cells (cells_in Idle true job done bytes origin)
  pub bytes_are : bytes ≡ bytes_in job done origin start

-- what a poll that answers so leaves, of a job with so many polls left before it
abbrev pub Leaves : Poll → OwnJob → ℕ → List ℕ → List ℕ → List Cell → Device → Type 0
Leaves Waiting job left bytes start origin d =
    IsDoneSoFar job (done_by job left) bytes start origin d
Leaves Moved job left bytes start origin d =
    IsDoneSoFar job (done_by job (left - 1)) bytes start origin d
Leaves Done job left bytes start origin d = IsJobDone job bytes start origin d
Leaves Failed job left bytes start origin d =
    IsJobFailed job (done_by job left) bytes start origin d
