-- Facts of what a host tells.
use Rattle.std.proofs.Common.{◌≡◌, ℕ, List, Option, Some, None, refl, ap, subst}
use Rattle.std.specs.Option.{option_map}
use Rattle.bm_host.specs.declared.Role.{Role}
use Rattle.bm_host.specs.Outside.{IfTold, begun}

-- a fact of all lists is one of what is told
pub IfTold-all : (o : Option (List ℕ)) (P : List ℕ → Type 0) → ((x : List ℕ) → P x) → IfTold o P
IfTold-all None P all = tt
IfTold-all (Some x) P all = all x

-- a fact of what is told gives another
pub IfTold-weaker : (o : Option (List ℕ)) (P Q : List ℕ → Type 0) → ((x : List ℕ) → P x → Q x) → IfTold o P → IfTold o Q
IfTold-weaker None P Q weaker p = tt
IfTold-weaker (Some x) P Q weaker p = weaker x p

-- a fact of what is told is one of the same told elsewhere
pub IfTold-same : {o p : Option (List ℕ)} (P : List ℕ → Type 0) → o ≡ p → IfTold o P → IfTold p P
IfTold-same P same = subst (λ told. IfTold told P) same

-- two facts of what is told give a third
pub IfTold-both : (o : Option (List ℕ)) (P Q R : List ℕ → Type 0) → ((x : List ℕ) → P x → Q x → R x)
    → IfTold o P → IfTold o Q → IfTold o R
IfTold-both None P Q R joined p q = tt
IfTold-both (Some x) P Q R joined p q = joined x p q

-- what is begun to be read is as it was
pub begun_kept : (role : Role) → ((bytes : List ℕ) → begun role bytes ≡ bytes) → (o : Option (List ℕ))
    → option_map (begun role) o ≡ o
begun_kept role kept None = refl
begun_kept role kept (Some bytes) = ap Some (kept bytes)
