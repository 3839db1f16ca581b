-- An opening: what is to be done next, and what the end of that makes of it and of the bitmap.
use Rattle.std.specs.Prelude.{ℕ, ◌<◌, ◌+◌, ◌-◌, ◌==◌, Bool, true, false, if◌then◌else◌, Option, Some, None, List}
use Rattle.std.specs.Str.{bytes_eq}
use Rattle.own_pio.specs.declared.job.OwnJob.{OwnJob}
use Rattle.own_pio.specs.declared.job.OwnJob.TheVariants.{Read, Write, Flush}
use Rattle.fill_bitmap.specs.declared.area.Area.{Area}
use Rattle.fill_bitmap.specs.Area.{IsSuitable, bitmap_sectors_of, reserved_of, sector_of_bits}
use Rattle.fill_bitmap.specs.Bitmap.{Sets, loaded}
use Rattle.fill_bitmap.specs.Disk.{header_of}
use Rattle.fill_store.specs.declared.opening.OpeningStep.{OpeningStep}
use Rattle.fill_store.specs.declared.opening.OpeningStep.TheVariants.{ReadHeader, ReadBits, WriteZeros, FlushZeros, WriteHeader, FlushHeader, Nothing}
use Rattle.fill_store.specs.Sectors.{zero_bits}

-- the opening of a run on a disk, and its next step
pub record OpeningState : Type 0 where
  pub area : Area
  pub id : ℕ
  pub step : OpeningStep

-- an opening at a step
abbrev pub opening_at : Area → ℕ → OpeningStep → OpeningState
opening_at area id step = record { area = area; id = id; step = step }

-- a step that an opening comes to: an empty image has none but the end, and each sector of the bitmap is
-- one of its own
abbrev pub IsReached : Area → OpeningStep → Type 0
IsReached area ReadHeader = 0 < area.image
IsReached area (ReadBits k) = k < bitmap_sectors_of area
IsReached area (WriteZeros k) = k < bitmap_sectors_of area
IsReached area FlushZeros = 0 < area.image
IsReached area WriteHeader = 0 < area.image
IsReached area FlushHeader = 0 < area.image
IsReached area Nothing = Unit {0}

-- an opening on a suitable area, at a step that it comes to
pub record IsOpening (o : OpeningState) : Type 0 where
  pub suitable : IsSuitable o.area
  pub reached : IsReached o.area o.step

-- an opening at power-on: the header is read first; an empty image has nothing to be opened (own)
abbrev pub opening_of : Area → ℕ → OpeningState
opening_of area id = opening_at area id (if area.image == 0 then Nothing else ReadHeader)

-- what each step has the drive do (own)
abbrev pub job_at : Area → OpeningStep → Option OwnJob
job_at area ReadHeader = Some (Read (reserved_of area) 1)
job_at area (ReadBits k) = Some (Read (sector_of_bits area k) 1)
job_at area (WriteZeros k) = Some (Write (sector_of_bits area k) 1)
job_at area FlushZeros = Some Flush
job_at area WriteHeader = Some (Write (reserved_of area) 1)
job_at area FlushHeader = Some Flush
job_at area Nothing = None

-- the next job of an opening
abbrev pub next_in_opening : OpeningState → Option OwnJob
next_in_opening o = job_at o.area o.step

-- how many jobs are left at most, if each is done at its first time: without the header, three behind the zeros
abbrev pub jobs_at : Area → OpeningStep → ℕ
jobs_at area ReadHeader = bitmap_sectors_of area + 4
jobs_at area (ReadBits k) = bitmap_sectors_of area - k
jobs_at area (WriteZeros k) = bitmap_sectors_of area - k + 3
jobs_at area FlushZeros = 3
jobs_at area WriteHeader = 2
jobs_at area FlushHeader = 1
jobs_at area Nothing = 0

-- the number of jobs left of an opening
abbrev pub jobs_of_opening : OpeningState → ℕ
jobs_of_opening o = jobs_at o.area o.step

-- the bytes that a step writes (own)
abbrev pub bytes_at : Area → ℕ → OpeningStep → Option (List ℕ)
bytes_at area id ReadHeader = None
bytes_at area id (ReadBits k) = None
bytes_at area id (WriteZeros k) = Some zero_bits
bytes_at area id FlushZeros = None
bytes_at area id WriteHeader = Some (header_of area id)
bytes_at area id FlushHeader = None
bytes_at area id Nothing = None

-- the bytes that an opening's next job writes
abbrev pub bytes_to_open : OpeningState → Option (List ℕ)
bytes_to_open o = bytes_at o.area o.id o.step

-- the bitmap is read from its sector `k` on, and behind the last one the opening has ended (own)
abbrev pub read_from : Area → ℕ → OpeningStep
read_from area k = if k == bitmap_sectors_of area then Nothing else ReadBits k

-- zeros are written from the bitmap's sector `k` on, and behind the last one they are flushed (own)
abbrev pub zeros_from : Area → ℕ → OpeningStep
zeros_from area k = if k == bitmap_sectors_of area then FlushZeros else WriteZeros k

-- the step behind one that was done with these bytes: they say whether the header is the run's (own)
abbrev pub step_after : Area → ℕ → List ℕ → OpeningStep → OpeningStep
step_after area id bytes ReadHeader =
    if bytes_eq bytes (header_of area id) then read_from area 0 else zeros_from area 0
step_after area id bytes (ReadBits k) = read_from area (k + 1)
step_after area id bytes (WriteZeros k) = zeros_from area (k + 1)
step_after area id bytes FlushZeros = WriteHeader
step_after area id bytes WriteHeader = FlushHeader
step_after area id bytes FlushHeader = Nothing
step_after area id bytes Nothing = Nothing

-- the bitmap behind a step that was done with these bytes: the blocks of a sector that was read are added (own)
abbrev pub sets_behind : List ℕ → OpeningStep → Sets → Sets
sets_behind bytes ReadHeader sets = sets
sets_behind bytes (ReadBits k) sets = loaded k bytes sets
sets_behind bytes (WriteZeros k) sets = sets
sets_behind bytes FlushZeros sets = sets
sets_behind bytes WriteHeader sets = sets
sets_behind bytes FlushHeader sets = sets
sets_behind bytes Nothing sets = sets

-- an opening whose job ended with these bytes, well or not: one that failed is begun again (own)
abbrev pub opening_after : Bool → List ℕ → OpeningState → OpeningState
opening_after true bytes o = record o { step = step_after o.area o.id bytes o.step }
opening_after false bytes o = o

-- the bitmap behind an opening's job that ended with these bytes, well or not (own)
abbrev pub sets_after_opening : Bool → List ℕ → OpeningState → Sets → Sets
sets_after_opening true bytes o sets = sets_behind bytes o.step sets
sets_after_opening false bytes o sets = sets
