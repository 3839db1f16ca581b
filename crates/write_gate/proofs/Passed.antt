-- The blocks that a search for an empty one has passed.
use Rattle.std.proofs.Common.{◌≡◌, ℕ, ◌+◌, ◌-◌, ◌<◌, ◌≤◌, ◌⊎◌, Bool, true, false, not, position, Option, Some, None, IfSome, List, length, get_or, drop, arith, refl}
use Rattle.std.specs.Option.{option_map, option_or}
use Rattle.std.proofs.lemmas.Bool.{not-false}
use Rattle.std.proofs.lemmas.List.{get_or-drop, length-drop}
use Rattle.std.proofs.lemmas.List.Quantifiers.{position-Some}
use Rattle.fill_bitmap.specs.BlockSet.{IsWhole, has, first_outside, next_outside}
use Rattle.fill_bitmap.proofs.Outside.{next_none}

-- the blocks from `b` on that lie before `f`, or all of them where `f` lies below `b`, are held
abbrev HasPassed : ℕ → List Bool → ℕ → Type 0
HasPassed b set f = (k : ℕ) → b ≤ k → k < length set → (k < f) ⊎ (f < b) → has set k ≡ true

-- a block from `b` on, as one of the rest
in_rest : (b k : ℕ) (set : List Bool) → b ≤ k → get_or (drop b set) (k - b) false ≡ true → has set k ≡ true
in_rest b k set from held =
    let at : b + (k - b) ≡ k = omega arith in
    let there = rw get_or-drop at held in rw at at there

before_found : (b : ℕ) (set : List Bool) (i : ℕ) → position not (drop b set) ≡ Some i → HasPassed b set (b + i)
before_found b set i e k from inside way =
    let (within, passes, before) = position-Some not (drop b set) i false e in
    in_rest b k set from (not-false (get_or (drop b set) (k - b) false) (before (k - b) (omega arith)))

all_held : (b : ℕ) (set : List Bool) → position not (drop b set) ≡ None
    → (k : ℕ) → b ≤ k → k < length set → has set k ≡ true
all_held b set e k from inside =
    let whole : IsWhole (drop b set) = (next_none 0 (drop b set)).0 (rw e refl) in
    in_rest b k set from (whole (k - b) (omega (arith, length-drop b set)))

either : (b : ℕ) (set : List Bool) (o : Option ℕ) → position not (drop b set) ≡ o → (p : Option ℕ)
    → IfSome (option_or (option_map (λ i. b + i) o) p) (HasPassed b set)
either b set (Some i) e p = before_found b set i e
either b set None e None = tt
either b set None e (Some f) = λ k from inside way. all_held b set e k from inside

-- a search for a block that a set lacks has passed those before the one found, and all from its start on where it
-- found one below
pub next_passed : (b : ℕ) (set : List Bool) (f : ℕ) → next_outside b set ≡ Some f → HasPassed b set f
next_passed b set f e = let passed = either b set (position not (drop b set)) refl (first_outside 0 set) in
    rw e at passed
