-- Whose value each sector has that the guest finds, and what a power cut would leave of it.
use Rattle.std.specs.Prelude.{ℕ, ◌≡◌, ◌*◌, Bool, true, false, List, length, take, IfSome}
use Rattle.ata_taskfile.specs.declared.registers.TheConstants.{SECTOR_BYTES}
use Rattle.ata_taskfile.specs.Device.{Cell, Device}
use Rattle.plain_drive.specs.Plain.{stored}
use Rattle.own_pio.specs.declared.job.OwnJob.{OwnJob}
use Rattle.own_pio.specs.declared.own.Own.{Own}
use Rattle.own_pio.specs.Job.{count_of}
use Rattle.own_pio.specs.Kept.{IsDoneSoFar}
use Rattle.own_pio.specs.Own.{done_of, job_of}
use Rattle.fill_bitmap.specs.BlockSet.{IsWithin}
use Rattle.fill_bitmap.specs.Disk.{guest_view, stored_blocks}
use Rattle.fill_store.specs.Cells.{KeepsBits}
use Rattle.fill_store.specs.Opening.{bytes_to_open}
use Rattle.fill_store.specs.OpeningCells.{Opens}
use Rattle.overlay.specs.Overlay.{HasValues, Survives}
use Rattle.monitor_state.specs.declared.state.State.{State}
use Rattle.monitor_state.specs.declared.state.State.TheVariants.{Guest, Monitor, Running, Raising, Moving}
use Rattle.monitor_state.specs.declared.state.Purpose.TheVariants as purpose
use Rattle.monitor_state.specs.declared.parts.Parts.{Parts}
use Rattle.monitor_state.specs.State.{is_opened}

-- the sectors of the image, those of the disk at power-on, and the blocks whose bit a cut may leave: the guest may find
-- the drive's values there
pub record Known : Type 0 where
  pub image : List (List ℕ)
  pub disk : List (List ℕ)
  pub durable : List Bool

-- the bytes that a job moves stand at the front of the monitor's sector
abbrev pub job_bytes : OwnJob → List ℕ → List ℕ
job_bytes job sector = take (SECTOR_BYTES * count_of job) sector

-- what a command of an opening has made so far of the sectors at its begin, over which the opening stood
pub record OpeningDone (disk : List (List ℕ)) (own : Own) (p : Parts) (d : Device) : Type 0 where
  pub origin : List Cell
  pub start : List ℕ
  pub stood : Opens disk p.opening p.bitmap origin
  pub whole : length start ≡ SECTOR_BYTES * count_of (job_of own)
  pub done : IsDoneSoFar (job_of own) (done_of own) (job_bytes (job_of own) p.sector) start origin d

-- an opening stands over the drive's sectors, or, while a command of it does, over those at the command's begin
abbrev pub OpensOver : List (List ℕ) → State → Parts → Device → Type 0
OpensOver disk (Guest side) p d = Opens disk p.opening p.bitmap d.cells
OpensOver disk (Monitor side) p d = Opens disk p.opening p.bitmap d.cells
OpensOver disk (Running side own purpose.Opening) p d = OpeningDone disk own p d
OpensOver disk (Running side own (purpose.Piece first count lease)) p d =
    Opens disk p.opening p.bitmap d.cells
OpensOver disk (Raising side dummy planned) p d = Opens disk p.opening p.bitmap d.cells
OpensOver disk Moving p d = Opens disk p.opening p.bitmap d.cells

-- until opening has ended the plain drive has what a guest finds on the disk at power-on, and none of it is written
-- (own)
pub record IsBeingOpened (k : Known) (s : State) (p : Parts) (d : Device)
    (plain : List Cell) : Type 0 where
  pub opens : OpensOver k.disk s p d
  -- the bytes that are to be written next stand in the monitor's sector
  pub buffer : IfSome (bytes_to_open p.opening) (λ bytes. take SECTOR_BYTES p.sector ≡ bytes)
  pub view : plain ≡ stored (guest_view p.area p.id k.image k.disk)
  pub durable : k.durable ≡ stored_blocks p.area p.id k.disk

-- once it has, each sector has the drive's value, or the image's in an empty block; and what a cut would leave of the
-- drive, as a guest would find it, is what it may leave of the plain drive (own)
pub record IsOverlaid (k : Known) (p : Parts) (cells plain : List Cell) : Type 0 where
  pub values : HasValues p.area p.bitmap.filled k.image cells plain
  pub survives : Survives p.area p.bitmap.stored k.durable k.image cells plain
  pub kept : KeepsBits p.area p.id p.bitmap.stored k.durable cells
  pub durable : IsWithin k.durable p.bitmap.filled
  -- no block is filled yet that isn't stored
  pub settled : IsWithin p.bitmap.filled p.bitmap.stored

-- the cells of a plain drive have the values that a deployment gives its guest
pub record HasSectors (k : Known) (s : State) (p : Parts) (d : Device)
    (plain : List Cell) : Type 0 where
  pub opens : is_opened p ≡ false → IsBeingOpened k s p d plain
  pub overlaid : is_opened p ≡ true → IsOverlaid k p d.cells plain

-- while opening hasn't ended, and where it ends now, the cells of each such plain drive stay so
abbrev pub OpeningGoesOn : State → Parts → Device → State → Parts → Device → Type 0
OpeningGoesOn s p d t r e = is_opened p ≡ false → (k : Known) (plain : List Cell) →
    HasSectors k s p d plain → HasSectors k t r e plain
