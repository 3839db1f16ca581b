-- Inner: what a step of a run leaves as it was.
use Rattle.std.specs.Prelude.{◌≡◌, ◌≢◌}
use Rattle.bm_host.specs.declared.Role.{Role}
use Rattle.bm_host.specs.declared.Role.TheVariants.{Report, Console}
use Rattle.bm_host.specs.Outside.{Outside}
use Rattle.block_writes.specs.Kept.{KeepsFilesBut}

-- Console holds what it held
abbrev pub SameConsole : Outside → Outside → Type 0
SameConsole old new = new.told Console ≡ old.told Console

-- no role holds anything else
abbrev pub KeepsAllFiles : Outside → Outside → Type 0
KeepsAllFiles old new = (role : Role) → new.told role ≡ old.told role

-- no more was given of any role but this one than before
abbrev pub KeepsGivenBut : Role → Outside → Outside → Type 0
KeepsGivenBut read old new = (role : Role) → role ≢ read → new.given role ≡ old.given role

-- no role but Report holds anything else
abbrev pub KeepsFiles : Outside → Outside → Type 0
KeepsFiles old new = KeepsFilesBut Report old new
