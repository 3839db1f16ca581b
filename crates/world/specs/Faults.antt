-- How a call of the world fails, and what that tells of the host.
use Rattle.std.specs.Prelude.{◌≡◌, Result, Ok, Err}
use Rattle.bm_host.specs.declared.Role.TheVariants.{Disk}
use Rattle.bm_host.specs.Outside.{Outside, OnlyRose, Reads, SameCounts, Writes}
use Rattle.world.specs.declared.fault.HostFault.{HostFault}
use Rattle.world.specs.declared.fault.HostFault.TheVariants.{Read, Write}
use Rattle.world.specs.declared.fault.StartFault.{StartFault}
use Rattle.world.specs.declared.fault.StartFault.TheVariants.{Host, NoMemory}

-- a fault of a role has raised that role's count, and no other
abbrev pub HasFailed : HostFault → Outside → Outside → Type 0
HasFailed (Read role) old new = OnlyRose Reads role old new
HasFailed (Write role) old new = OnlyRose Writes role old new

-- a call that goes well has raised no count
abbrev pub FailsByHost : {T : Type 0} → Result T HostFault → Outside → Outside → Type 0
FailsByHost (Ok x) old new = SameCounts old new
FailsByHost (Err fault) old new = HasFailed fault old new

-- a start that wants memory has raised none, and the one role that it reads is Disk
abbrev pub FailsAtStart : {T : Type 0} → Result T StartFault → Outside → Outside → Type 0
FailsAtStart (Ok x) old new = SameCounts old new
FailsAtStart (Err NoMemory) old new = SameCounts old new
FailsAtStart (Err (Host fault)) old new = (fault ≡ Read Disk) × OnlyRose Reads Disk old new
