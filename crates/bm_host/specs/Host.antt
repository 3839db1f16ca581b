-- What each call of a host does to the outside, and what it answers.
use Rattle.std.specs.Prelude.{ℕ, ◌≡◌, ◌+◌, ◌≤◌, ◌++◌, List, length, Result, OnOk, OnErr, IfOk, ⊤}
use Rattle.std.specs.Option.{option_map}
use Rattle.bm_host.specs.declared.Role.{Role}
use Rattle.bm_host.specs.Outside.{Outside, Reads, Writes, Counted, SameBytes, SameElsewhere, IfTold, Becomes, Gives, AppendsPrefix, begin_side, begun, bytes_at, looked_at, written_at}

-- `begin` of a role (own)
pub record Begins {T E : Type 0} (role : Role) (old new : Outside)
    (result : Result T E) : Type 0 where
  pub cause : Counted (begin_side role) role old new result
  pub elsewhere : SameElsewhere role old new
  pub looked : new.looked ≡ old.looked
  pub told : OnOk result (new.told role ≡ option_map (begun role) (old.told role))
  pub given : OnOk result (new.given role ≡ 0)
  pub unknown : Becomes (λ _ _. ⊤) (old.told role) (new.told role)

-- `length` of a role (own)
pub record TellsLength {E : Type 0} (role : Role) (old new : Outside)
    (result : Result ℕ E) : Type 0 where
  pub cause : Counted Reads role old new result
  pub bytes : SameBytes old new
  pub looked : new.looked ≡ old.looked
  pub length : IfOk result (λ n. IfTold (old.told role) (λ bytes. n ≡ length bytes))

-- `read_at` of so many bytes from a place: these are got (own)
pub record ReadsAt {T E : Type 0} (role : Role) (place count : ℕ) (old new : Outside)
    (got : List ℕ) (result : Result T E) : Type 0 where
  pub cause : Counted Reads role old new result
  pub bytes : SameBytes old new
  pub looked : new.looked ≡ looked_at role old.looked count
  pub read : OnOk result (IfTold (old.told role) (λ bytes. got ≡ bytes_at place count bytes))

-- `read_next` of so many bytes at most: the answer says how many of those that are got are the role's next (own)
pub record ReadsNext {E : Type 0} (role : Role) (most : ℕ) (old new : Outside)
    (got : List ℕ) (result : Result ℕ E) : Type 0 where
  pub cause : Counted Reads role old new result
  pub elsewhere : SameElsewhere role old new
  pub looked : new.looked ≡ looked_at role old.looked most
  pub told : new.told role ≡ old.told role
  pub room : IfOk result (λ n. n ≤ most)
  pub bytes : IfOk result (λ n. IfTold (old.told role)
      (λ bytes. Gives bytes (old.given role) most n got))
  pub given : IfOk result (λ n. IfTold (old.told role) (λ _. new.given role ≡ old.given role + n))
  pub err : OnErr result (new.given role ≡ old.given role)

-- `write_at` of these bytes to a place (own)
pub record WritesAt {T E : Type 0} (role : Role) (place : ℕ) (from : List ℕ) (old new : Outside)
    (result : Result T E) : Type 0 where
  pub cause : Counted Writes role old new result
  pub elsewhere : SameElsewhere role old new
  pub looked : new.looked ≡ old.looked
  pub told : OnOk result (Becomes (λ old new. new ≡ written_at place from old)
      (old.told role) (new.told role))
  pub given : OnOk result (new.given role ≡ old.given role)
  pub unknown : Becomes (λ _ _. ⊤) (old.told role) (new.told role)

-- `write_next` of these bytes: after a failure a part of them was appended (own)
pub record WritesNext {T E : Type 0} (role : Role) (from : List ℕ) (old new : Outside)
    (result : Result T E) : Type 0 where
  pub cause : Counted Writes role old new result
  pub elsewhere : SameElsewhere role old new
  pub looked : new.looked ≡ old.looked
  pub told : OnOk result (Becomes (λ old new. new ≡ old ++ from) (old.told role) (new.told role))
  pub given : new.given role ≡ old.given role
  pub part : OnErr result (Becomes (AppendsPrefix from) (old.told role) (new.told role))
