-- A settling: what is to be done next, and what the end of that makes of it and of the bitmap.
use Rattle.std.specs.Prelude.{ℕ, ◌<◌, ◌+◌, ◌-◌, ◌==◌, Bool, true, false, if◌then◌else◌, Option, Some, None, List}
use Rattle.own_pio.specs.declared.job.OwnJob.{OwnJob}
use Rattle.own_pio.specs.declared.job.OwnJob.TheVariants.{Write, Flush}
use Rattle.fill_bitmap.specs.declared.area.Area.{Area}
use Rattle.fill_bitmap.specs.Area.{IsSuitable, bitmap_sectors_of, sector_of_bits}
use Rattle.fill_bitmap.specs.Bits.{sector_of}
use Rattle.fill_bitmap.specs.Bitmap.{Sets, frozen_stored}
use Rattle.fill_store.specs.declared.settle.SettleStep.{SettleStep}
use Rattle.fill_store.specs.declared.settle.SettleStep.TheVariants.{FlushData, WriteBits, FlushBits, Nothing}

-- a settling on a disk, and its next step
pub record SettleState : Type 0 where
  pub area : Area
  pub step : SettleStep

-- a settling at a step
abbrev pub settle_at : Area → SettleStep → SettleState
settle_at area step = record { area = area; step = step }

-- a step that a settling of so many sectors of the bitmap comes to: each of the sectors is written in a step of its own
abbrev pub IsReached : ℕ → SettleStep → Type 0
IsReached sectors FlushData = Unit {0}
IsReached sectors (WriteBits k) = k < sectors
IsReached sectors FlushBits = Unit {0}
IsReached sectors Nothing = Unit {0}

-- a settling on a suitable area, at a step that it comes to
pub record IsSettling (s : SettleState) : Type 0 where
  pub suitable : IsSuitable s.area
  pub reached : IsReached (bitmap_sectors_of s.area) s.step

-- a settling that begins: what was written of the blocks is flushed first (own)
abbrev pub settle_of : Area → SettleState
settle_of area = settle_at area FlushData

-- what each step has the drive do (own)
abbrev pub job_at : Area → SettleStep → Option OwnJob
job_at area FlushData = Some Flush
job_at area (WriteBits k) = Some (Write (sector_of_bits area k) 1)
job_at area FlushBits = Some Flush
job_at area Nothing = None

-- the next job of a settling
abbrev pub next_in_settling : SettleState → Option OwnJob
next_in_settling s = job_at s.area s.step

-- how many jobs are left, if none fails
abbrev pub jobs_at : Area → SettleStep → ℕ
jobs_at area FlushData = bitmap_sectors_of area + 2
jobs_at area (WriteBits k) = bitmap_sectors_of area - k + 1
jobs_at area FlushBits = 1
jobs_at area Nothing = 0

-- the number of jobs left of a settling
abbrev pub jobs_of_settling : SettleState → ℕ
jobs_of_settling s = jobs_at s.area s.step

-- the bytes that a step writes: the bits of the frozen blocks (own)
abbrev pub bytes_at : SettleStep → Sets → Option (List ℕ)
bytes_at FlushData sets = None
bytes_at (WriteBits k) sets = Some (sector_of k sets.frozen)
bytes_at FlushBits sets = None
bytes_at Nothing sets = None

-- the bytes that a settling's next job writes
abbrev pub bytes_to_settle : SettleState → Sets → Option (List ℕ)
bytes_to_settle s sets = bytes_at s.step sets

-- the bitmap is written from its sector `k` on, and behind the last one it is flushed (own)
abbrev pub bits_from : Area → ℕ → SettleStep
bits_from area k = if k == bitmap_sectors_of area then FlushBits else WriteBits k

-- the step behind one that was done (own)
abbrev pub step_after : Area → SettleStep → SettleStep
step_after area FlushData = bits_from area 0
step_after area (WriteBits k) = bits_from area (k + 1)
step_after area FlushBits = Nothing
step_after area Nothing = Nothing

-- the bitmap behind a step that was done: the frozen blocks are stored once their bits are durable (own)
abbrev pub sets_behind : SettleStep → Sets → Sets
sets_behind FlushData sets = sets
sets_behind (WriteBits k) sets = sets
sets_behind FlushBits sets = frozen_stored sets
sets_behind Nothing sets = sets

-- a settling whose job ended, well or not: one that failed ends it (own)
abbrev pub settle_after : Bool → SettleState → SettleState
settle_after true s = record s { step = step_after s.area s.step }
settle_after false s = record s { step = Nothing }

-- the bitmap behind a settling's job that ended, well or not (own)
abbrev pub sets_after_settling : Bool → SettleState → Sets → Sets
sets_after_settling true s sets = sets_behind s.step sets
sets_after_settling false s sets = sets
