-- What a program's outside holds and how often it failed, and what a call to it may change.
use Rattle.std.specs.Prelude.{ℕ, ◌≡◌, ◌≢◌, ◌+◌, ◌-◌, ◌<◌, ◌≤◌, ◌++◌, min, List, [], length, take, drop, replicate, Option, Some, None, Result, Ok, Err, ⊤}
use Rattle.bm_host.specs.declared.Role.{Role}
use Rattle.bm_host.specs.declared.Role.TheVariants.{Image, Disk, Schedule, Report, Out, Console}

-- the last value of a counter, which stays there
abbrev pub LAST_COUNT : ℕ
LAST_COUNT = 18446744073709551615

-- the outside: what each role holds where that is told, how much of it `read_next` has given, how often its
-- reads and its writes failed, and how many bytes of Image were asked for
pub record Outside : Type 0 where
  pub told : Role → Option (List ℕ)
  pub given : Role → ℕ
  pub read_faults : Role → ℕ
  pub write_faults : Role → ℕ
  pub looked : ℕ

-- the two counts of faults that a role has
pub data Side : Type 0 where
  Reads : Side
  Writes : Side

-- a count of faults
abbrev pub faults : Side → Outside → Role → ℕ
faults Reads o = o.read_faults
faults Writes o = o.write_faults

-- the count of faults that a role has beside this one
abbrev pub other : Side → Side
other Reads = Writes
other Writes = Reads

-- the count to which a `begin` belongs: that of writes for what the program writes
abbrev pub begin_side : Role → Side
begin_side Report = Writes
begin_side Out = Writes
begin_side Image = Reads
begin_side Disk = Reads
begin_side Schedule = Reads
begin_side Console = Reads

-- a count rose, or stands at its last value; a count never falls
pub record Rose (old new : ℕ) : Type 0 where
  pub kept : old ≤ new
  pub more : min (old + 1) LAST_COUNT ≤ new

-- no count of faults rose
abbrev pub NoCountRose : Outside → Outside → Type 0
NoCountRose old new =
    (side : Side) (role : Role) → ¬ Rose (faults side old role) (faults side new role)

-- no count of faults changed
pub record SameCounts (old new : Outside) : Type 0 where
  pub reads : (role : Role) → new.read_faults role ≡ old.read_faults role
  pub writes : (role : Role) → new.write_faults role ≡ old.write_faults role

-- this count of this role rose, and no other changed
pub record OnlyRose (side : Side) (role : Role) (old new : Outside) : Type 0 where
  pub rose : Rose (faults side old role) (faults side new role)
  pub other_roles : (r : Role) → r ≢ role → faults side new r ≡ faults side old r
  pub other_side : (r : Role) → faults (other side) new r ≡ faults (other side) old r

-- a call that fails has raised its own count, and a call that doesn't has raised none
abbrev pub Counted : {T E : Type 0} → Side → Role → Outside → Outside → Result T E → Type 0
Counted side role old new (Ok x) = SameCounts old new
Counted side role old new (Err e) = OnlyRose side role old new

-- what the roles hold and how much of it was given is as before
pub record SameBytes (old new : Outside) : Type 0 where
  pub told : (role : Role) → new.told role ≡ old.told role
  pub given : (role : Role) → new.given role ≡ old.given role

-- what every role but one holds and how much of it was given is as before
pub record SameElsewhere (role : Role) (old new : Outside) : Type 0 where
  pub told : (r : Role) → r ≢ role → new.told r ≡ old.told r
  pub given : (r : Role) → r ≢ role → new.given r ≡ old.given r

-- a property of a role's bytes, where these are told
abbrev pub IfTold : Option (List ℕ) → (List ℕ → Type 0) → Type 0
IfTold None P = ⊤
IfTold (Some bytes) P = P bytes

-- a role that isn't told stays so, and where it is told before and after, its bytes are in this relation
abbrev pub Becomes : {A : Type 0} → (A → A → Type 0) → Option A → Option A → Type 0
Becomes change None None = ⊤
Becomes change None (Some new) = ⊥
Becomes change (Some old) None = ⊤
Becomes change (Some old) (Some new) = change old new

-- bytes asked for of Image are looked at, whatever the answer; the count stops at its last value
abbrev pub looked_at : Role → ℕ → ℕ → ℕ
looked_at Image looked n = min (looked + n) LAST_COUNT
looked_at Disk looked n = looked
looked_at Schedule looked n = looked
looked_at Report looked n = looked
looked_at Out looked n = looked
looked_at Console looked n = looked

-- what a role holds once it is begun: Report and Out are empty, any other holds what it held
abbrev pub begun : Role → List ℕ → List ℕ
begun Report bytes = []
begun Out bytes = []
begun Image bytes = bytes
begun Disk bytes = bytes
begun Schedule bytes = bytes
begun Console bytes = bytes

-- the n bytes from a place on
abbrev pub bytes_at : ℕ → ℕ → List ℕ → List ℕ
bytes_at place n bytes = take n (drop place bytes)

-- bytes written at a place: what was there is replaced, and between the old end and the place stand zeros
abbrev pub written_at : ℕ → List ℕ → List ℕ → List ℕ
written_at place from bytes =
    take place (bytes ++ replicate (place - length bytes) 0)
    ++ from ++ drop (place + length from) bytes

-- the next bytes of a role were given: as many as `n`, at most the room for them, and none only at the end
pub record Gives (bytes : List ℕ) (given room n : ℕ) (got : List ℕ) : Type 0 where
  pub bytes_got : take n got ≡ take n (drop given bytes)
  pub there : n ≤ length (drop given bytes)
  pub none_at_end : n ≡ 0 → 0 < room → drop given bytes ≡ []

-- a prefix of the bytes was appended
abbrev pub AppendsPrefix : List ℕ → List ℕ → List ℕ → Type 0
AppendsPrefix from old new = (n : ℕ) × (new ≡ old ++ take n from)
