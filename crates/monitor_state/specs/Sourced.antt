-- Where the sectors came from that the monitor, or the drive, has for the guest.
use Rattle.std.specs.Prelude.{ℕ, ◌≡◌, ◌<◌, ◌≤◌, ◌+◌, ◌*◌, Bool, true, false, List, slice_get, Option, Some, None}
use Rattle.ata_taskfile.specs.declared.Access.{Access}
use Rattle.ata_taskfile.specs.Device.{Device}
use Rattle.aoe_client.specs.declared.tags.TagState.TheVariants.{Answered}
use Rattle.aoe_client.specs.Asking.{Asking, tags_in}
use Rattle.aoe_client.specs.Fetching.{Fetching, first_tag}
use Rattle.plain_drive.specs.Alike.{gives_command, reads_sector}
use Rattle.plain_drive.specs.Plain.{Plain}
use Rattle.schedule_text.specs.declared.Item.{Item}
use Rattle.streaming.specs.Lines.{Line}
use Rattle.streaming.specs.Monitor.{item_of}
use Rattle.streaming.specs.Sources.{HasCome, HasSourcesAlong, IsSourced, has_read, one_reads, one_writes, was_asked_for, was_read}
use Rattle.monitor_state.specs.declared.state.State.{State}
use Rattle.monitor_state.specs.declared.state.State.TheVariants.{Guest, Monitor, Running, Raising, Moving}
use Rattle.monitor_state.specs.declared.state.Purpose.TheVariants as purpose
use Rattle.monitor_state.specs.declared.held.HeldPiece.{HeldPiece}
use Rattle.monitor_state.specs.declared.parts.Parts.{Parts}
use Rattle.monitor_state.specs.Seen.{Shows, file_seen}
use Rattle.monitor_state.specs.State.{end_of_piece}

-- each sector of a held piece has a source
abbrev pub HeldSourced : ℕ → Option HeldPiece → List Line → Type 0
HeldSourced image None lines = Unit {0}
HeldSourced image (Some held) lines =
    (s : ℕ) → held.first ≤ s → s < end_of_piece held → IsSourced image s lines

-- each answered tag of a slot of the client's has come
abbrev pub SlotCame : Option Fetching → List Line → Type 0
SlotCame None lines = Unit {0}
SlotCame (Some f) lines =
    (i : ℕ) → slice_get f.tags i ≡ Some Answered → HasCome (first_tag f + i) lines

-- each tag of a block, of so many, that a slot asks for was asked for
abbrev pub SlotAsked : ℕ → Option Fetching → List Line → Type 0
SlotAsked count None lines = Unit {0}
SlotAsked count (Some f) lines =
    (i : ℕ) → i < count → was_asked_for (f.block * count + i) lines ≡ true

-- so was each tag of both slots'
abbrev pub WereAsked : Asking → List Line → Type 0
WereAsked c lines =
    SlotAsked (tags_in c.block) c.demand lines × SlotAsked (tags_in c.block) c.background lines

-- what the drive reads for the guest was told since the guest's command: the sectors of the command that it was given,
-- or those of a piece
abbrev pub ReadsFor : State → Device → List Line → Type 0
ReadsFor (Guest side) d lines =
    (s : ℕ) → reads_sector d.file.phase s ≡ true → was_read s lines ≡ true
ReadsFor (Monitor side) d lines = Unit {0}
ReadsFor (Running side own purpose.Opening) d lines = Unit {0}
ReadsFor (Running side own (purpose.Piece first count lease)) d lines =
    (s : ℕ) → first ≤ s → s < first + count → was_read s lines ≡ true
ReadsFor (Raising side dummy planned) d lines = Unit {0}
ReadsFor Moving d lines = Unit {0}

-- what the monitor, or the drive, has for the guest came from the drive or from the image's server (own)
pub record HasSources (s : State) (p : Parts) (d : Device) (lines : List Line) : Type 0 where
  pub held : HeldSourced p.area.image p.held lines
  pub demand : SlotCame p.client.demand lines
  pub background : SlotCame p.client.background lines
  pub read : ReadsFor s d lines

-- what is told of a command that reads is among these lines
abbrev pub IsToldIn : Option Item → List Line → Type 0
IsToldIn told lines = (s : ℕ) → one_reads s (item_of told) ≡ true → was_read s lines ≡ true

-- a turn that tells this, or a part of one:
pub record KeepsSources (s : State) (p : Parts) (d : Device) (told : Option Item) (t : State)
    (r : Parts) (e : Device) : Type 0 where
  -- the steps that are told load or move no sector without a source
  pub loads : (lines : List Line) (memory : List ℕ) (q : Plain) → Shows s p d memory q
      → HasSources s p d lines → HasSourcesAlong p.area.image (item_of told) q lines
  -- what is there for the guest goes on to have its source
  pub keeps : (lines : List Line) → IsToldIn told lines → HasSources s p d lines
      → HasSources t r e lines
  -- no command that writes is told while a read of the guest's is in hand
  pub spares : has_read (file_seen s d).phase ≡ true → one_writes (item_of told) ≡ false

-- of one list of lines and a later one: what came has come, and, unless a command of the guest's was taken, what the
-- drive read it has read
pub record GoesOnTo (taken : Bool) (lines later : List Line) : Type 0 where
  pub came : (tag : ℕ) → HasCome tag lines → HasCome tag later
  pub read : taken ≡ false → (s : ℕ) → was_read s lines ≡ true → was_read s later ≡ true

-- an access of the guest's keeps the sources
abbrev pub AccessKeepsSources : Access → State → Parts → Device → State → Parts → Device → Type 0
AccessKeepsSources a s p d t r e = (lines later : List Line) →
    GoesOnTo (gives_command a (file_seen s d)) lines later
    → HasSources s p d lines → HasSources t r e later
