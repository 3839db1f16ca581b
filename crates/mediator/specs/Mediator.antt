-- What contracts see of the mediator.
use Rattle.std.specs.Prelude.{ℕ, ◌≡◌, Bool, false, List}
use Rattle.ata_taskfile.specs.Device.{Cell, Device, powered_on}
use Rattle.plain_drive.specs.Plain.{Plain}
use Rattle.plain_drive.specs.Seen.{HasCut}
use Rattle.fill_bitmap.specs.declared.area.Area.{Area}
use Rattle.aoe_client.specs.Asking.{Asking}
use Rattle.monitor_state.specs.declared.state.State.{State}
use Rattle.monitor_state.specs.declared.state.State.TheVariants.{Guest, Monitor, Running, Raising, Moving}
use Rattle.monitor_state.specs.declared.parts.Parts.{Parts}
use Rattle.monitor_state.specs.State.{is_opened}
use Rattle.monitor_state.specs.Fits.{Fits, FitsParts, IsBetweenEvents}
use Rattle.monitor_state.specs.Propositions.{Fits-prop, FitsParts-prop, IsBetweenEvents-prop}
use Rattle.monitor_state.specs.Start.{IsBegun, IsSideAtPowerOn}
use Rattle.mediator.specs.declared.mediator.Mediator.{Mediator}

-- who has the drive, and what the monitor does with it
abbrev pub state_of : Mediator → State
state_of m = m.state

-- what the monitor keeps beside that
abbrev pub parts_of : Mediator → Parts
parts_of m = m.parts

-- what is asked of the image server
abbrev pub client_of : Mediator → Asking
client_of m = m.parts.client

-- opening has ended
abbrev pub is_opened_in : Mediator → Bool
is_opened_in m = is_opened m.parts

-- the mediator whose client asks for this, and all else is as it was
abbrev pub with_client : Asking → Mediator → Mediator
with_client c m = record m { parts = record m.parts { client = c } }

-- the mediator's own state and parts fit
abbrev pub IsFit : Mediator → Type 0
IsFit m = FitsParts m.state m.parts

-- the mediator and its drive fit
abbrev pub FitsDrive : Mediator → Device → Type 0
FitsDrive m d = Fits m.state m.parts d

-- the drive stands as it does between two events: a dummy read in flight is at work
abbrev pub IsStill : Mediator → Device → Type 0
IsStill m d = IsBetweenEvents m.state d

-- each has one proof at most, so a ghost field may say it
pub IsFit-prop : (m : Mediator) → IsProp (IsFit m)
IsFit-prop m = FitsParts-prop m.state m.parts

pub FitsDrive-prop : (m : Mediator) (d : Device) → IsProp (FitsDrive m d)
FitsDrive-prop m d = Fits-prop m.state m.parts d

pub IsStill-prop : (m : Mediator) (d : Device) → IsProp (IsStill m d)
IsStill-prop m d = IsBetweenEvents-prop m.state d

-- the monitor has the drive, as at power-on
abbrev pub StartsWith : State → Type 0
StartsWith (Guest side) = ⊥
StartsWith (Monitor side) = IsSideAtPowerOn side
StartsWith (Running side own why) = ⊥
StartsWith (Raising side dummy planned) = ⊥
StartsWith Moving = ⊥

-- the mediator at power-on, over an area, for a run, with so many buffers
pub record IsAtPowerOn (area : Area) (id buffers : ℕ) (m : Mediator) : Type 0 where
  pub state : StartsWith m.state
  pub parts : IsBegun area id buffers m.parts

-- it fits every drive of the area at power-on, the first one or one after a power cut; no dummy read is in flight, and
-- opening hasn't ended
pub record FitsAtPowerOn (m : Mediator) : Type 0 where
  pub first : (cells : List Cell) → FitsDrive m (powered_on cells m.parts.area.sectors)
  pub cut : (old new : Plain) → HasCut old new → new.device.sectors ≡ m.parts.area.sectors
      → FitsDrive m new.device
  pub still : (d : Device) → IsStill m d
  pub closed : is_opened_in m ≡ false
