-- What a run leaves as it was, by the way in which it ends.
use Rattle.std.specs.Prelude.{◌≡◌, ◌≢◌, []}
use Rattle.bm_host.specs.declared.Role.{Role}
use Rattle.bm_host.specs.declared.Role.TheVariants.{Image, Disk, Schedule, Report, Out, Console}
use Rattle.bm_host.specs.Outside.{Outside, IfTold}
use Rattle.bmcast.specs.declared.Status.{Status}
use Rattle.bmcast.specs.declared.Status.TheVariants as status

-- the roles that a run only reads
abbrev pub IsRead : Role → Type 0
IsRead Image = Unit {0}
IsRead Disk = Unit {0}
IsRead Schedule = Unit {0}
IsRead Report = ⊥
IsRead Out = ⊥
IsRead Console = ⊥

-- the roles that a run leaves as they were: a refusal writes its line to Console and nothing else, a run
-- that is done writes Report and Out, and of a role whose read failed nothing is said (own)
abbrev pub IsLeft : Status → Role → Type 0
IsLeft status.Done role = (role ≢ Report) × (role ≢ Out)
IsLeft status.Usage role = role ≢ Console
IsLeft (status.Unsuitable why) role = role ≢ Console
IsLeft (status.BadLine number fault) role = IsRead role
IsLeft (status.ReadFault failed) role = IsRead role × (role ≢ failed)
IsLeft (status.WriteFault failed) role = IsRead role
IsLeft status.NoMemory role = IsRead role

-- a run that ends so leaves what these roles hold
abbrev pub LeavesFiles : Status → Outside → Outside → Type 0
LeavesFiles status old new = (role : Role) → IsLeft status role → new.told role ≡ old.told role

-- Report and Out hold what they held, and no more of Schedule was given than before
pub record IsUnopened (old new : Outside) : Type 0 where
  pub given : new.given Schedule ≡ old.given Schedule
  pub report : new.told Report ≡ old.told Report
  pub out : new.told Out ≡ old.told Out

-- the files are open, and no more: the next read of Schedule begins at its start, and Report and Out
-- are empty
pub record IsOpened (o : Outside) : Type 0 where
  pub given : o.given Schedule ≡ 0
  pub report : IfTold (o.told Report) (λ bytes. bytes ≡ [])
  pub out : IfTold (o.told Out) (λ bytes. bytes ≡ [])
