-- What holds where sectors are told before and after.
use Rattle.std.proofs.Common.{◌≡◌, ℕ, true, List, length, is_some, Option, Some, None, refl, ap}
use Rattle.drive_store.specs.Store.{IsListOf}
use Rattle.drive_store.specs.declared.store.Store.{Ghosts}
use Rattle.std.specs.Prelude.{IfSome}
use Rattle.drive_model.specs.declared.cached_store.CachedStore.{CachedStore}
use Rattle.drive_model.specs.CachedStore.{IfBothTold, list_told}

-- the same store tells the same
pub same_told : {S : Type 0} {T : Ghosts S} (old new : CachedStore S T) → new ≡ old
    → (T.sectors new.store).told ≡ (T.sectors old.store).told
same_told {S} {T} old new same = ap (λ (s : CachedStore S T). (T.sectors s.store).told) same

-- where what is told stays it holds if it does once something is told
pub becomes_told : (P : Type 0) (old new : Option (List (List ℕ))) → new ≡ old → (is_some old ≡ true → P)
    → IfBothTold (P) old new
becomes_told P None None same p = tt
becomes_told P None (Some list) same p = absurd cc
becomes_told P (Some list) None same p = tt
becomes_told P (Some list) (Some other) same p = p refl

-- where what is told stays it holds if it does
pub becomes_same : (P : Type 0) (old new : Option (List (List ℕ))) → new ≡ old → P → IfBothTold (P) old new
becomes_same P old new same p = becomes_told P old new same (λ _. p)

-- what follows of it holds too
pub becomes_so : (P Q : Type 0) (old new : Option (List (List ℕ))) → (P → Q) → IfBothTold (P) old new
    → IfBothTold (Q) old new
becomes_so P Q None None f b = tt
becomes_so P Q None (Some new) f b = b
becomes_so P Q (Some old) None f b = tt
becomes_so P Q (Some old) (Some new) f b = f b

-- told sectors are as many as there are
pub told_many : (count : ℕ) (told : Option (List (List ℕ))) → IfSome told (λ list. IsListOf count list)
    → is_some told ≡ true
    → length (list_told told) ≡ count
told_many count None whole is = absurd cc
told_many count (Some list) whole is = whole.number
