-- That the client's requests are made in time, and that turns ask for no tag again.
use Rattle.std.specs.Prelude.{ℕ, ◌≡◌, ◌≤◌, ◌<◌, ◌+◌, ◌*◌, ◌⊎◌, true, false, List, slice_get, Option, Some, None}
use Rattle.ata_taskfile.specs.declared.Access.{Access}
use Rattle.ata_taskfile.specs.declared.Request.{Request}
use Rattle.ata_taskfile.specs.declared.Phase.{Phase}
use Rattle.ata_taskfile.specs.declared.Phase.TheVariants.{Reset, Idle, Busy, Ready}
use Rattle.ata_taskfile.specs.Device.{Device}
use Rattle.aoe_client.specs.Asking.{tags_in}
use Rattle.aoe_client.specs.Fetching.{Fetching, first_tag, is_open}
use Rattle.aoe_client.specs.Messages.{first_sector}
use Rattle.io_interpret.specs.Piece.{piece_end}
use Rattle.plain_drive.specs.Alike.{gives_command}
use Rattle.port_lease.specs.Sides.{view_held}
use Rattle.redirect.specs.declared.redirect.Redirect.{Redirect}
use Rattle.redirect.specs.Next.{end_of_read, request_of}
use Rattle.streaming.specs.Asks.{asked_in_turns}
use Rattle.streaming.specs.Lines.{Line}
use Rattle.streaming.specs.Open.{IsOpen, ticks_since}
use Rattle.monitor_state.specs.declared.state.State.{State}
use Rattle.monitor_state.specs.declared.state.State.TheVariants.{Guest, Monitor, Running, Raising, Moving}
use Rattle.monitor_state.specs.declared.held.HeldPiece.{HeldPiece}
use Rattle.monitor_state.specs.declared.parts.Parts.{Parts}
use Rattle.monitor_state.specs.Seen.{file_seen}
use Rattle.monitor_state.specs.State.{end_of_piece}

-- a slot of this age waits for a tag: it is open, and so many ticks followed its last request
pub record WaitsFor (age tag : ℕ) (lines : List Line) : Type 0 where
  pub awaited : IsOpen tag lines
  pub aged : ticks_since tag lines ≡ age

-- a slot waits for each of its tags that isn't answered
abbrev pub SlotWaits : Option Fetching → List Line → Type 0
SlotWaits None lines = Unit {0}
SlotWaits (Some f) lines =
    (i : ℕ) → is_open (slice_get f.tags i) ≡ true → WaitsFor f.age (first_tag f + i) lines

-- the sector up to which a read has, or asks for, what it reads, where this one comes next: behind the block of so many
-- sectors that is asked, or behind the held piece (own)
abbrev pub obtained_to : ℕ → Option Fetching → Option HeldPiece → ℕ → ℕ
obtained_to block (Some f) held s = (f.block + 1) * block
obtained_to block None (Some held) s = end_of_piece held
obtained_to block None None s = s

-- what a read reads from a tag's first sector to the end of its block lies before that
abbrev pub IsObtained : Parts → Request → ℕ → ℕ → Type 0
IsObtained p request done tag = piece_end p.area (first_sector tag) (end_of_read request)
    ≤ obtained_to p.area.block p.client.demand p.held (request.first + done)

-- of a command in hand no turn asks for a tag again: of a redirected read, of which that was obtained; before that none
-- was asked for
abbrev pub IsPast : Option Redirect → Parts → ℕ → ℕ → Type 0
IsPast None p done tag = ⊥
IsPast (Some redirect) p done tag = IsObtained p (request_of redirect) done tag

-- nor is it where none is in hand
abbrev pub IsPastIn : Phase → Parts → ℕ → Type 0
IsPastIn Reset p tag = Unit {0}
IsPastIn Idle p tag = Unit {0}
IsPastIn (Busy order done) p tag = IsPast p.hand.redirect p done tag
IsPastIn (Ready order done left) p tag = IsPast p.hand.redirect p done tag

-- until the guest's next command no turn asks for a tag again
abbrev pub IsBehind : State → Parts → ℕ → Type 0
IsBehind (Guest side) p tag = Unit {0}
IsBehind (Monitor side) p tag = IsPastIn (view_held side).file.phase p tag
IsBehind (Running side own why) p tag = IsPastIn (view_held side).file.phase p tag
IsBehind (Raising side dummy planned) p tag = IsPastIn (view_held side).file.phase p tag
IsBehind Moving p tag = Unit {0}

-- turns asked for no tag, or once for one that none asks for again
abbrev pub AskedOnce : State → Parts → List Line → Type 0
AskedOnce s p lines = (tag : ℕ) → (asked_in_turns tag lines ≡ 0)
    ⊎ ((asked_in_turns tag lines ≡ 1) × IsBehind s p tag)

-- the client waits for what was asked for in time, and turns ask for no tag again (own)
pub record HasRequests (s : State) (p : Parts) (lines : List Line) : Type 0 where
  pub demand : SlotWaits p.client.demand lines
  pub background : SlotWaits p.client.background lines
  pub once : AskedOnce s p lines

-- what no turn asks for again none does later
abbrev pub StaysBehind : State → Parts → State → Parts → Type 0
StaysBehind s p t r = (tag : ℕ) → IsBehind s p tag → IsBehind t r tag

-- of a block, of so many tags, that a slot asks for, none was one of those before, and each is now
abbrev pub ComesBehind : ℕ → Option Fetching → State → Parts → State → Parts → Type 0
ComesBehind count None s p t r = Unit {0}
ComesBehind count (Some f) s p t r = (i : ℕ) → i < count
    → ¬ IsBehind s p (f.block * count + i) × IsBehind t r (f.block * count + i)

-- a turn, or a part of one: what no turn asks for again none does later, and no tag is one of those that it asks for
pub record KeepsRequests (s : State) (p : Parts) (t : State) (r : Parts) : Type 0 where
  pub behind : StaysBehind s p t r
  pub asked : p.client.demand ≡ None
      → ComesBehind (tags_in p.client.block) r.client.demand s p t r

-- so does an access of the guest's that takes no command
abbrev pub AccessKeepsRequests : Access → State → Parts → Device → State → Parts → Type 0
AccessKeepsRequests a s p d t r =
    gives_command a (file_seen s d) ≡ false → StaysBehind s p t r
