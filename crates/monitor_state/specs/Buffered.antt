-- What the buffers hold: the sectors of the image, and those of the drive.
use Rattle.std.specs.Prelude.{ℕ, ◌≡◌, ◌<◌, ◌+◌, ◌*◌, List, ◌++◌, length, take}
use Rattle.ata_taskfile.specs.declared.registers.TheConstants.{SECTOR_BYTES}
use Rattle.ata_taskfile.specs.Device.{Cell, Device}
use Rattle.mon_pool.specs.Region.{Held, leased_bytes}
use Rattle.aoe_client.specs.Buffers.{BothHold}
use Rattle.own_pio.specs.declared.own.Own.{Own}
use Rattle.own_pio.specs.Kept.{IsDoneSoFar}
use Rattle.own_pio.specs.Own.{done_of, job_of}
use Rattle.fill_bitmap.specs.Disk.{sector_at}
use Rattle.monitor_state.specs.declared.state.State.{State}
use Rattle.monitor_state.specs.declared.state.State.TheVariants.{Guest, Monitor, Running, Raising, Moving}
use Rattle.monitor_state.specs.declared.state.Purpose.TheVariants as purpose
use Rattle.monitor_state.specs.declared.parts.Parts.{Parts}
use Rattle.monitor_state.specs.Overlaid.{HasSectors, Known}
use Rattle.monitor_state.specs.Sectors.{IsPieceOf}

-- the two sectors of an image at a tag
abbrev pub image_part : List (List ℕ) → ℕ → List ℕ
image_part image tag = sector_at (2 * tag) image ++ sector_at (2 * tag + 1) image

-- what an own read of so many sectors has put into its buffer so far, of the drive's sectors as they were at its begin
pub record PieceRead (own : Own) (count : ℕ) (lease : Held) (p : Parts) (d : Device) : Type 0 where
  pub origin : List Cell
  pub start : List ℕ
  pub whole : length start ≡ SECTOR_BYTES * count
  pub done : IsDoneSoFar (job_of own) (done_of own)
      (take (SECTOR_BYTES * count) (leased_bytes lease p.pool)) start origin d

-- where an own command reads a piece, its buffer has what is read so far
abbrev pub ReadsSoFar : State → Parts → Device → Type 0
ReadsSoFar (Guest side) p d = Unit {0}
ReadsSoFar (Monitor side) p d = Unit {0}
ReadsSoFar (Running side own purpose.Opening) p d = Unit {0}
ReadsSoFar (Running side own (purpose.Piece first count lease)) p d = PieceRead own count lease p d
ReadsSoFar (Raising side dummy planned) p d = Unit {0}
ReadsSoFar Moving p d = Unit {0}

-- the buffers hold what a plain drive has in its sectors, over an image (own)
pub record HasBuffers (image : List (List ℕ)) (s : State) (p : Parts) (d g : Device) : Type 0 where
  -- the held piece has its sectors
  pub held : IsPieceOf g p.pool p.held
  -- and of each answered tag the client's buffers have the image's
  pub asked : BothHold (image_part image) p.client p.pool
  pub read : ReadsSoFar s p d
  -- the image's sectors are whole
  pub whole : (s : ℕ) → s < length image → length (sector_at s image) ≡ SECTOR_BYTES

-- a call that reaches the drive by register accesses alone keeps that, for each plain drive with the sectors that a
-- deployment gives its guest
abbrev pub KeepsBuffers : State → Parts → Device → State → Parts → Device → Type 0
KeepsBuffers s p d t r e = (k : Known) (g : Device) → HasSectors k s p d g.cells
    → HasBuffers k.image s p d g → HasBuffers k.image t r e g
