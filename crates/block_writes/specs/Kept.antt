-- What a step leaves of the outside as it was.
use Rattle.std.specs.Prelude.{◌≡◌, ◌≢◌}
use Rattle.bm_host.specs.declared.Role.{Role}
use Rattle.bm_host.specs.Outside.{Outside}

-- no byte of Image was looked at
abbrev pub KeepsLooked : Outside → Outside → Type 0
KeepsLooked old new = new.looked ≡ old.looked

-- no role but this one holds anything else
abbrev pub KeepsFilesBut : Role → Outside → Outside → Type 0
KeepsFilesBut written old new = (role : Role) → role ≢ written → new.told role ≡ old.told role
