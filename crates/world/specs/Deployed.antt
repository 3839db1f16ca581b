-- Inner: what holds of a world's monitor between two events, and what a report shows of it.
use Rattle.std.specs.Prelude.{◌≡◌, [], Option, Some, None}
use Rattle.std.proofs.Props.{props}
use Rattle.ata_taskfile.specs.Device.{Device}
use Rattle.aoe_client.specs.Asking.{due_tags}
use Rattle.mediator.specs.declared.mediator.Mediator.{Mediator}
use Rattle.mediator.specs.Mediator.{FitsDrive, IsStill, FitsDrive-prop, IsStill-prop, client_of, is_opened_in}
use Rattle.streaming.specs.Monitor.{Watched}

-- a monitor as a report shows it
abbrev pub watched_of : Mediator → Watched
watched_of m = record { asking = client_of m; opened = is_opened_in m }

-- the same of a monitor, where there is one
abbrev pub watched_in : Option Mediator → Option Watched
watched_in None = None
watched_in (Some m) = Some (watched_of m)

-- between two events monitor and drive fit, a dummy read in flight is at work, and no tag is due
pub record IsReady (m : Mediator) (d : Device) : Type 0 where
  pub fits : FitsDrive m d
  pub still : IsStill m d
  pub sent : due_tags (client_of m) ≡ []

-- the same of a monitor, where there is one
abbrev pub IsSound : Option Mediator → Device → Type 0
IsSound None d = Unit {0}
IsSound (Some m) d = IsReady m d

-- each has one proof at most, so a ghost field may say it
IsReady-prop : (m : Mediator) (d : Device) → IsProp (IsReady m d)
IsReady-prop m d = hlevel (props, FitsDrive-prop, IsStill-prop)

pub IsSound-prop : (m : Option Mediator) (d : Device) → IsProp (IsSound m d)
IsSound-prop None d = hlevel props
IsSound-prop (Some m) d = IsReady-prop m d
