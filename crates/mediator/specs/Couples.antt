-- When a mediator, its drive and the guest's memory stand for a plain drive.
use Rattle.std.specs.Prelude.{ℕ, ◌≡◌, ◌<◌, ◌++◌, Bool, true, false, List, ◌∷◌, length}
use Rattle.ata_taskfile.specs.declared.registers.TheConstants.{SECTOR_BYTES}
use Rattle.ata_taskfile.specs.Device.{Device, powered_on}
use Rattle.aoe_client.specs.Messages.{sectors_carried}
use Rattle.fill_bitmap.specs.Disk.{guest_view, sector_at, stored_blocks}
use Rattle.plain_drive.specs.Plain.{Plain, plain, stored}
use Rattle.schedule_text.specs.declared.Item.{Item}
use Rattle.plain_run.specs.Plan.{ActsAlong, planned}
use Rattle.streaming.specs.Asks.{AsksInTime, AsksSeldom}
use Rattle.streaming.specs.Client.{TakesFor}
use Rattle.streaming.specs.Lines.{Call, IsTold, Line, line_of}
use Rattle.streaming.specs.Lines.Call.{of_frame}
use Rattle.streaming.specs.Open.{is_at_power_on}
use Rattle.streaming.specs.Sources.{HasSourcesAlong, SparesReads}
use Rattle.monitor_state.specs.Seen.{Shows}
use Rattle.monitor_state.specs.Overlaid.{HasSectors, Known}
use Rattle.monitor_state.specs.Buffered.{HasBuffers, image_part}
use Rattle.monitor_state.specs.Requests.{HasRequests}
use Rattle.monitor_state.specs.Sourced.{HasSources, WereAsked}
use Rattle.mediator.specs.declared.mediator.Mediator.{Mediator}
use Rattle.mediator.specs.Mediator.{client_of, parts_of, state_of}
use Rattle.mediator.specs.Ready.{BecomesReady}

-- a mediator, its drive and the guest's memory stand for a plain drive after these calls, over this image and, until
-- opening has ended, over this disk
pub record Couples (k : Known) (m : Mediator) (d : Device) (memory : List ℕ) (q : Plain)
    (lines : List Line) : Type 0 where
  -- the plain drive is the one that the guest sees
  pub shows : Shows (state_of m) (parts_of m) d memory q
  -- its sectors are those that the deployment gives the guest, and those that it would give after a power cut
  pub sectors : HasSectors k (state_of m) (parts_of m) d q.device.cells
  -- the buffers hold what it has there
  pub buffers : HasBuffers k.image (state_of m) (parts_of m) d q.device
  -- what is there for the guest came from the drive or from the image's server
  pub sources : HasSources (state_of m) (parts_of m) d lines
  pub asked : WereAsked (client_of m) lines
  -- what the client waits for was asked for in time, and turns ask for no tag again
  pub requests : HasRequests (state_of m) (parts_of m) lines
  -- the command that the drive has in hand is the one that was told last
  pub told : IsTold d.file lines
  -- the monitor becomes ready in time
  pub ready : BecomesReady (state_of m) (parts_of m) d lines

-- what the items of a call tell of a plain drive, over an image of so many sectors and the calls before:
pub record GoesAlong (image : ℕ) (given : List Item) (q : Plain) (lines : List Line) : Type 0 where
  -- each step that is told has an effect
  pub acts : ActsAlong given q
  -- no sector that one loads or moves for a read of the guest's has a third source
  pub sources : HasSourcesAlong image given q lines
  -- and no command that writes is told while such a read is in hand
  pub spares : SparesReads given q

-- a call that gave the items behind these keeps every plain drive for which mediator, drive and memory stood: it makes
-- the steps that are told, and they stand for it
abbrev pub KeepsAlong : Call → List Item → List Item → Mediator → Device → List ℕ → Mediator
    → Device → List ℕ → Type 0
KeepsAlong call before after m d memory n e left = (k : Known) (q : Plain) (lines : List Line)
    (given : List Item) → after ≡ before ++ given → Couples k m d memory q lines
    → GoesAlong (parts_of m).area.image given q lines
    × Couples k n e left (planned given q) (line_of call q given ∷ lines)

-- a call that gave the items behind these, and reached no drive, keeps every plain drive as it is
abbrev pub KeepsAll : Call → List Item → List Item → Mediator → Mediator → Type 0
KeepsAll call before after m n = (k : Known) (d : Device) (memory : List ℕ) (q : Plain)
    (lines : List Line) (given : List Item) → after ≡ before ++ given
    → Couples k m d memory q lines → Couples k n d memory q (line_of call q given ∷ lines)

-- what the items of a call ask for, over the calls before: each tag where it may be, and none too often under turns
pub record AsksRightly (call : Call) (given : List Item) (q : Plain) (lines : List Line) : Type 0 where
  pub in_time : AsksInTime call given lines
  pub seldom : AsksSeldom (line_of call q given ∷ lines)

-- a call that gave the items behind these asks so, behind all calls after which the mediator stood for a plain drive
abbrev pub AsksAlong : Call → List Item → List Item → Mediator → Type 0
AsksAlong call before after m = (k : Known) (d : Device) (memory : List ℕ) (q : Plain)
    (lines : List Line) (given : List Item) → after ≡ before ++ given
    → Couples k m d memory q lines → AsksRightly call given q lines

-- a frame that the client takes is no stray one, and has the image's sectors for the tag that it is taken for: it is an
-- honest reply (own)
abbrev pub IsHonestTo : List (List ℕ) → Mediator → List ℕ → Bool → Type 0
IsHonestTo image m frame stray = (tag : ℕ) → TakesFor tag frame (client_of m)
    → (stray ≡ false) × (image_part image tag ≡ sectors_carried frame)

-- so does one that heard an honest frame
abbrev pub KeepsHeard : List ℕ → Bool → List Item → List Item → Mediator → Mediator → Type 0
KeepsHeard frame stray before after m n = (k : Known) (d : Device) (memory : List ℕ) (q : Plain)
    (lines : List Line) (given : List Item) → after ≡ before ++ given
    → IsHonestTo k.image m frame stray → Couples k m d memory q lines
    → Couples k n d memory q (line_of (of_frame frame stray) q given ∷ lines)

-- what is known at power-on of an image and a disk: the data of the disk's stored blocks is durable
abbrev pub known_at_power_on : Mediator → List (List ℕ) → List (List ℕ) → Known
known_at_power_on m image disk = record {
  image = image;
  disk = disk;
  durable = stored_blocks (parts_of m).area (parts_of m).id disk;
}

-- over any image of whole sectors and any disk a mediator at power-on stands for the plain drive at power-on whose
-- sectors are those that a guest finds on the disk, behind no call, or whatever was told before the power came on
abbrev pub StandsAtPowerOn : Mediator → Type 0
StandsAtPowerOn m = (image disk : List (List ℕ)) (memory : List ℕ) (lines : List Line) →
    is_at_power_on lines ≡ true →
    ((s : ℕ) → s < length image → length (sector_at s image) ≡ SECTOR_BYTES) →
    length disk ≡ (parts_of m).area.sectors →
    let area = (parts_of m).area in
    Couples (known_at_power_on m image disk) m (powered_on (stored disk) area.sectors) memory
    (plain (powered_on (stored (guest_view area (parts_of m).id image disk)) area.sectors) memory)
    lines
