-- A value for each role.
use Rattle.std.specs.Borrow.{Lends, MutBor, Fml, RattleType}
use Rattle.bm_host.specs.declared.Role.{Role}
use Rattle.bm_host.specs.declared.Role.TheVariants.{Image, Disk, Schedule, Report, Out, Console}
use Rattle.bm_host.specs.declared.by_role.ByRole.{ByRole}
use Rattle.bm_host.specs.contracts.by_role.ByRole.{the_row}

-- the value that a role has
abbrev pub value_of : {T : Type 0} → ByRole T → Role → T
value_of all Image = all.image
value_of all Disk = all.disk
value_of all Schedule = all.schedule
value_of all Report = all.report
value_of all Out = all.out
value_of all Console = all.console

-- a value for each role, where this role's is x now
abbrev pub with_value : {T : Type 0} → ByRole T → Role → T → ByRole T
with_value all Image x = record all { image = x }
with_value all Disk x = record all { disk = x }
with_value all Schedule x = record all { schedule = x }
with_value all Report x = record all { report = x }
with_value all Out x = record all { out = x }
with_value all Console x = record all { console = x }

-- what is lent ends with this role's value set to the last one behind r
abbrev pub LendsValue : (T : RattleType) → MutBor (ByRole T.Denot) → Role → MutBor T.Denot → Fml
LendsValue T all role r = Lends (the_row T) T all r (with_value all.now role)
