-- What serving a frame answers, over a host, and what it changes outside.
use Rattle.std.specs.Prelude.{ℕ, ◌≡◌, ◌≤◌, ◌<◌, ◌+◌, ◌*◌, List, length, Option, Some, None, Result, option_map}
use Rattle.bm_host.specs.declared.Role.TheVariants.{Image}
use Rattle.bm_host.specs.Outside.{IfTold, Outside}
use Rattle.ata_taskfile.specs.declared.registers.TheConstants.{SECTOR_BYTES}
use Rattle.aoe_frame.specs.declared.message.Aoe.{Aoe}
use Rattle.aoe_frame.specs.declared.message.FrameFault.{FrameFault}
use Rattle.aoe_frame.specs.Layout.{frame_of}
use Rattle.aoe_frame.specs.Reading.{IsReading}
use Rattle.image_server.specs.Reply.{reply, sectors_sent}

-- the image has so many sectors, where it is told
abbrev pub HasImage : ℕ → Outside → Type 0
HasImage sectors outside =
    IfTold (outside.told Image) (λ image. SECTOR_BYTES * sectors ≤ length image)

-- over the image where it is told, else over some image of so many sectors
abbrev pub OverImage : ℕ → Option (List ℕ) → (List ℕ → Type 0) → Type 0
OverImage sectors None P = (image : List ℕ) × (length image ≡ SECTOR_BYTES * sectors) × P image
OverImage sectors (Some image) P = P image

-- an answer is the server's reply to a frame over an image, as it is written, or silence: that to the frame's reading
pub record IsReply (sectors : ℕ) (image frame : List ℕ) (answer : Option (List ℕ)) : Type 0 where
  pub reading : Result Aoe FrameFault
  pub reads : IsReading frame reading
  pub written : answer ≡ option_map frame_of (reply sectors image reading)

-- no more of the image is looked at than this many sectors, and of none nothing
pub record LooksAtMost (sectors : ℕ) (old new : Outside) : Type 0 where
  pub most : new.looked ≤ old.looked + SECTOR_BYTES * sectors
  pub none : sectors ≡ 0 → new.looked ≡ old.looked

-- no more of the image is looked at than goes into the reply to a frame
abbrev pub LooksAtSent : ℕ → List ℕ → Outside → Outside → Type 0
LooksAtSent sectors frame old new =
    (r : Result Aoe FrameFault) → IsReading frame r → LooksAtMost (sectors_sent sectors r) old new

-- sectors go into the reply to a frame
abbrev pub HasSectors : ℕ → List ℕ → Type 0
HasSectors sectors frame =
    (r : Result Aoe FrameFault) → IsReading frame r → 0 < sectors_sent sectors r
