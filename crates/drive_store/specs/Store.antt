-- What a store holds, and what a call to it owes.
use Rattle.std.specs.Prelude.{ℕ, ◌≡◌, List, length, All, Option, IfSome, Result, Ok, Err}
use Rattle.bm_host.specs.Outside.{Rose}
use Rattle.ata_taskfile.specs.Sectors.{IsSector}
pub use Rattle.bm_host.specs.Outside.{Becomes}

-- so many sectors, and the bytes of each, one sector after the other, where these are told (own)
pub record Sectors : Type 0 where
  pub count : ℕ
  pub told : Option (List (List ℕ))

-- a list of so many whole sectors
pub record IsListOf (count : ℕ) (list : List (List ℕ)) : Type 0 where
  pub number : length list ≡ count
  pub values : All IsSector list

-- where sectors are told, they are as many as there are
abbrev pub IsWhole : Sectors → Type 0
IsWhole s = IfSome s.told (λ list. IsListOf s.count list)

-- a call that fails has raised the count of faults, and a call that doesn't has left it as it was
abbrev pub Counted : {T E : Type 0} → ℕ → ℕ → Result T E → Type 0
Counted old new (Ok x) = new ≡ old
Counted old new (Err e) = Rose old new
