-- Inner: what a step of a run that stopped early owes of its outside, and the status of it.
use Rattle.std.specs.Prelude.{ℕ, Result, Ok, Err}
use Rattle.bm_host.specs.Outside.{Outside, SameCounts, OnlyRose, Reads, Writes}
use Rattle.schedule_text.specs.declared.LineFault.{LineFault}
use Rattle.bmcast.specs.declared.Status.{Status}
use Rattle.bmcast.specs.declared.Status.TheVariants as status
use Rattle.world.specs.declared.fault.HostFault.{HostFault}
use Rattle.world.specs.declared.fault.HostFault.TheVariants as fault
use Rattle.world.specs.declared.fault.StartFault.{StartFault}
use Rattle.world.specs.declared.fault.StartFault.TheVariants as start
use Rattle.bmcast.specs.declared.stop.Stop.{Stop}
use Rattle.bmcast.specs.declared.stop.Stop.TheVariants as stop

-- the stop for a fault of the host
abbrev pub stop_of : HostFault → Stop
stop_of (fault.Read role) = stop.ReadFault role
stop_of (fault.Write role) = stop.WriteFault role

-- the stop of a world that could not begin
abbrev pub stop_at_start : StartFault → Stop
stop_at_start (start.Host one) = stop_of one
stop_at_start start.NoMemory = stop.NoMemory

-- a stop for a fault has raised the count of that role, and any other has raised none
abbrev pub Stopped : Stop → Outside → Outside → Type 0
Stopped (stop.ReadFault role) old new = OnlyRose Reads role old new
Stopped (stop.WriteFault role) old new = OnlyRose Writes role old new
Stopped other old new = SameCounts old new

-- what goes well has raised no count
abbrev pub IsCounted : {T : Type 0} → Result T Stop → Outside → Outside → Type 0
IsCounted (Ok x) old new = SameCounts old new
IsCounted (Err stop) old new = Stopped stop old new

-- a fact of a bad line, its number and its kind
abbrev pub OnBadLine : {T : Type 0} → Result T Stop → (ℕ → LineFault → Type 0) → Type 0
OnBadLine (Err (stop.BadLine number fault)) P = P number fault
OnBadLine other P = Unit {0}

-- a fact for what goes well and for a bad line; of a fault nothing is said
abbrev pub UnlessFault : {T : Type 0} → Result T Stop → Type 0 → Type 0
UnlessFault (Ok x) P = P
UnlessFault (Err (stop.BadLine number fault)) P = P
UnlessFault other P = Unit {0}

-- the status of a run that stopped
abbrev pub status_of : Stop → Status
status_of stop.Usage = status.Usage
status_of (stop.Unsuitable why) = status.Unsuitable why
status_of (stop.BadLine number fault) = status.BadLine number fault
status_of (stop.ReadFault role) = status.ReadFault role
status_of (stop.WriteFault role) = status.WriteFault role
status_of stop.NoMemory = status.NoMemory

-- the status after a run
abbrev pub status_after : {T : Type 0} → Result T Stop → Status
status_after (Ok x) = status.Done
status_after (Err why) = status_of why
