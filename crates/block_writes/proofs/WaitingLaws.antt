-- Bytes that wait to be written to a role.
use Rattle.std.proofs.Common.{◌≡◌, ◌++◌, ℕ, suc, List, [], ◌∷◌, length, Option, Some, None, ◌∙◌, sym, ap, append_assoc, append-nil, arith}
use Rattle.bm_host.specs.declared.Role.{Role}
use Rattle.bm_host.specs.Outside.{Outside, Becomes, IfTold}
use Rattle.block_writes.specs.Waiting.{Waits}
use Rattle.block_writes.proofs.Told.{IfTold-weaker}

-- nothing is written and nothing waits
pub Waits-none : (role : Role) (outside : Outside) (waiting : List ℕ) → waiting ≡ []
    → IfTold (outside.told role) (λ written. written ≡ [])
    → Waits role waiting outside []
Waits-none role outside waiting none empty = IfTold-weaker (outside.told role) _ _
    (λ written e. ap (λ xs. written ++ xs) none ∙ append-nil written ∙ e) empty

-- bytes that are added to those that wait
pub Waits-more : (role : Role) (outside : Outside) (waiting text bytes : List ℕ) → Waits role waiting outside text
    → Waits role (waiting ++ bytes) outside (text ++ bytes)
Waits-more role outside waiting text bytes = IfTold-weaker (outside.told role) _ _
    (λ written so. sym (append_assoc written waiting bytes) ∙ ap (λ xs. xs ++ bytes) so)

-- nothing waits any more: all of the text is written
pub Waits-all : (role : Role) (outside : Outside) (waiting text : List ℕ) → waiting ≡ []
    → Waits role waiting outside text
    → IfTold (outside.told role) (λ written. written ≡ text)
Waits-all role outside waiting text none = IfTold-weaker (outside.told role) _ _
    (λ written so. sym (append-nil written) ∙ ap (λ xs. written ++ xs) (sym none) ∙ so)

-- whatever was told before, with more behind it is told now: so what is told has become longer by that
becomes_longer : (old new : Option (List ℕ)) (more rest : List ℕ) → rest ≡ []
    → ((text : List ℕ) → IfTold old (λ written. written ++ [] ≡ text)
    → IfTold new (λ written. written ++ rest ≡ text ++ more))
    → Becomes (λ before after. after ≡ before ++ more) old new
becomes_longer None None more rest none waits = tt
becomes_longer (Some before) None more rest none waits = tt
becomes_longer None (Some after) more rest none waits = absurd (no_two more (sym (waits [] tt) ∙ waits (0 ∷ []) tt))
  where
    no_two : (xs : List ℕ) → ¬ (xs ≡ 0 ∷ xs)
    no_two xs e = let longer : length xs ≡ suc (length xs) = ap length e in absurd (omega (longer, arith))
becomes_longer (Some before) (Some after) more rest none waits =
    sym (append-nil after) ∙ ap (λ xs. after ++ xs) (sym none) ∙ waits before (append-nil before)

-- whatever was written before, it is written and waits with more behind it, and nothing waits: the role has become
-- longer by that
pub Waits-appended : (role : Role) (old new : Outside) (more left : List ℕ) → left ≡ []
    → ((text : List ℕ) → Waits role [] old text → Waits role left new (text ++ more))
    → Becomes (λ before after. after ≡ before ++ more) (old.told role) (new.told role)
Waits-appended role old new more left none waits =
    becomes_longer (old.told role) (new.told role) more left none waits
