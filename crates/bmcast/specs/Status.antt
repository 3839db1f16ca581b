-- What each status of a run owes.
use Rattle.std.specs.Prelude.{ℕ, ◌≡◌, ◌≢◌, ◌≤◌, ◌++◌, ◌⊎◌, List}
use Rattle.run_words.specs.Options.{Choice, Says}
use Rattle.schedule_text.specs.declared.LineFault.{LineFault}
use Rattle.bmcast.specs.Chosen.{ChooseARun, Chooses}
use Rattle.bmcast.specs.Files.{IsOpened, IsUnopened}
use Rattle.bmcast.specs.Lengths.{CanRun, IsUnsuitable}
use Rattle.bm_host.specs.declared.Role.{Role}
use Rattle.bm_host.specs.declared.Role.TheVariants.{Image, Disk, Schedule, Report, Out, Console}
use Rattle.bm_host.specs.Outside.{Outside, Rose, SameCounts, Becomes, AppendsPrefix}
use Rattle.bmcast.specs.declared.Status.{Status}
use Rattle.bmcast.specs.declared.Status.TheVariants as status

-- no count of faults changed but that of Console's writes, which didn't fall
pub record OnlyConsole (old new : Outside) : Type 0 where
  pub reads : (role : Role) → new.read_faults role ≡ old.read_faults role
  pub writes : (role : Role) → role ≢ Console → new.write_faults role ≡ old.write_faults role
  pub console : old.write_faults Console ≤ new.write_faults Console

-- this text was appended to Console; or a prefix of it, and the count of Console's writes rose
abbrev pub ConsoleSays : List ℕ → Outside → Outside → Type 0
ConsoleSays text old new =
    Becomes (λ before after. after ≡ before ++ text) (old.told Console) (new.told Console)
    ⊎ (Rose (old.write_faults Console) (new.write_faults Console)
    × Becomes (AppendsPrefix text) (old.told Console) (new.told Console))

-- a read of this role failed: its count rose, and no other changed but that of Console's writes, which didn't
-- fall
pub record ReadFailed (failed : Role) (old new : Outside) : Type 0 where
  pub rose : Rose (old.read_faults failed) (new.read_faults failed)
  pub reads : (role : Role) → role ≢ failed → new.read_faults role ≡ old.read_faults role
  pub writes : (role : Role) → role ≢ Console → new.write_faults role ≡ old.write_faults role
  pub console : old.write_faults Console ≤ new.write_faults Console

-- a write of this role failed: its count rose, and no other changed but that of Console's writes, which didn't
-- fall
pub record WriteFailed (failed : Role) (old new : Outside) : Type 0 where
  pub rose : Rose (old.write_faults failed) (new.write_faults failed)
  pub reads : (role : Role) → new.read_faults role ≡ old.read_faults role
  pub writes : (role : Role) → role ≢ failed → role ≢ Console
      → new.write_faults role ≡ old.write_faults role
  pub console : old.write_faults Console ≤ new.write_faults Console

-- what a status says of the counts of faults
abbrev pub HasItsCause : Status → Outside → Outside → Type 0
HasItsCause status.Done old new = SameCounts old new
HasItsCause (status.ReadFault role) old new = ReadFailed role old new
HasItsCause (status.WriteFault role) old new = WriteFailed role old new
HasItsCause other old new = OnlyConsole old new

-- a fact for Done
abbrev pub OnDone : Status → Type 0 → Type 0
OnDone status.Done P = P
OnDone other P = Unit {0}

-- the number that a program ends with (own)
abbrev pub exit_code : Status → ℕ
exit_code status.Done = 0
exit_code status.Usage = 1
exit_code (status.Unsuitable why) = 2
exit_code (status.BadLine number fault) = 3
exit_code (status.ReadFault role) = 4
exit_code (status.WriteFault role) = 5
exit_code status.NoMemory = 6

-- why a status comes, of the words and of what is found in image and disk, in the order in which these are looked at;
-- no other role than these has a fault that ends a run
abbrev pub HasItsReason : Status → List (List ℕ) → Outside → Type 0
HasItsReason status.Usage words o = (choice : Choice) → ¬ Says words choice
HasItsReason (status.Unsuitable reason) words o = Chooses words o (IsUnsuitable reason)
HasItsReason (status.ReadFault Image) words o = ChooseARun words
HasItsReason (status.ReadFault Disk) words o = ChooseARun words
HasItsReason (status.ReadFault Schedule) words o = Chooses words o CanRun
HasItsReason (status.ReadFault Report) words o = ⊥
HasItsReason (status.ReadFault Out) words o = ⊥
HasItsReason (status.ReadFault Console) words o = ⊥
HasItsReason (status.WriteFault Image) words o = ⊥
HasItsReason (status.WriteFault Disk) words o = ⊥
HasItsReason (status.WriteFault Schedule) words o = ⊥
HasItsReason (status.WriteFault Report) words o = Chooses words o CanRun
HasItsReason (status.WriteFault Out) words o = Chooses words o CanRun
HasItsReason (status.WriteFault Console) words o = ⊥
HasItsReason status.NoMemory words o = Chooses words o CanRun
HasItsReason (status.BadLine number fault) words o = Chooses words o CanRun
HasItsReason status.Done words o = Chooses words o CanRun

-- how far a run has come that ends so: what is found in image and disk stops it before Report and Out are opened, a
-- fault of Disk then too, or behind good files when these are open; want of memory comes then alone. A fault of Image
-- comes before they are opened, or behind good files
abbrev pub HasCome : Status → List (List ℕ) → Outside → Outside → Type 0
HasCome status.Usage words old new = IsUnopened old new
HasCome (status.Unsuitable reason) words old new = IsUnopened old new
HasCome (status.ReadFault Image) words old new =
    IsUnopened old new ⊎ Chooses words old CanRun
HasCome (status.ReadFault Disk) words old new =
    IsUnopened old new ⊎ (IsOpened new × Chooses words old CanRun)
HasCome status.NoMemory words old new = IsOpened new
HasCome later words old new = Unit {0}

-- a fact for each status that comes before the first event alone
abbrev pub BeforeEvents : Status → Type 0 → Type 0
BeforeEvents status.Usage P = P
BeforeEvents (status.Unsuitable reason) P = P
BeforeEvents (status.ReadFault Disk) P = P
BeforeEvents status.NoMemory P = P
BeforeEvents other P = Unit {0}

-- a fact for every status but Done
abbrev pub UnlessDone : Status → Type 0 → Type 0
UnlessDone status.Done P = Unit {0}
UnlessDone other P = P

-- a fact for a bad line
abbrev pub OnBadLineStatus : Status → (ℕ → LineFault → Type 0) → Type 0
OnBadLineStatus (status.BadLine number fault) P = P number fault
OnBadLineStatus other P = Unit {0}
