-- The first block that a set lacks.
use Rattle.std.proofs.Common.{◌≡◌, ◌↔◌, ℕ, ◌+◌, ◌<◌, ◌≤◌, Bool, false, not, if◌then◌else◌, nat_lt, position, Option, Some, None, IsNone, IfSome, List, length, get_or, drop, arith, refl}
use Rattle.std.specs.Option.{option_map, option_or}
use Rattle.std.specs.List.{position_or_len}
use Rattle.std.proofs.lemmas.Bool.{not-true, not-false}
use Rattle.std.proofs.lemmas.Bool.Decides.{nat_tests}
use Rattle.std.proofs.lemmas.List.{get_or-drop, length-drop}
use Rattle.std.proofs.lemmas.List.Quantifiers.{position-Some}
use Rattle.std.proofs.lemmas.List.Sums.{fails_before_first}
use Rattle.fill_bitmap.specs.BlockSet.{IsWhole, has, first_outside, next_outside}

-- what is wanted of a block that was found
abbrev IsOutside : List Bool → ℕ → Type 0
IsOutside set f = (f < length set) × (has set f ≡ false)

found_at : (b : ℕ) (set : List Bool) (o : Option ℕ) → position not (drop b set) ≡ o
    → IfSome (option_map (λ i. b + i) o) (IsOutside set)
found_at b set None e = tt
found_at b set (Some i) e =
    let (inside, passes, before) = position-Some not (drop b set) i false e in
    let lacks : get_or (drop b set) i false ≡ false = not-true (get_or (drop b set) i false) passes in
    (omega (arith, length-drop b set), rw get_or-drop at lacks)

no_place : (n m : ℕ) → (if nat_lt n m then Some n else None) ≡ None → m ≤ n
no_place n m e = grind (arith, nat_tests)

-- where none is found, all are held
none_found : (set : List Bool) → position not set ≡ None → IsWhole set
none_found set e b inside =
    let most = no_place (position_or_len not set) (length set) e in
    not-false (get_or set b false) (fails_before_first not set b false (omega arith))

either : (set : List Bool) (o p : Option ℕ) → IfSome o (IsOutside set) → IfSome p (IsOutside set)
    → IfSome (option_or o p) (IsOutside set)
either set None p first second = second
either set (Some f) p first second = first

found : (b : ℕ) (set : List Bool) → IfSome (next_outside b set) (IsOutside set)
found b set =
    either set (first_outside b set) (first_outside 0 set) (found_at b set (position not (drop b set)) refl)
    (found_at 0 set (position not (drop 0 set)) refl)

below_part : (set : List Bool) (o : Option ℕ) → IfSome o (IsOutside set) → IfSome o (λ f. f < length set)
below_part set None h = tt
below_part set (Some f) h = h.0

empty_part : (set : List Bool) (o : Option ℕ) → IfSome o (IsOutside set) → IfSome o (λ f. has set f ≡ false)
empty_part set None h = tt
empty_part set (Some f) h = h.1

-- the block that is found is one of the image's
pub next_below : (b : ℕ) (set : List Bool) → IfSome (next_outside b set) (λ f. f < length set)
next_below b set = below_part set (next_outside b set) (found b set)

-- the set lacks the block that is found
pub next_empty : (b : ℕ) (set : List Bool) → IfSome (next_outside b set) (λ f. has set f ≡ false)
next_empty b set = empty_part set (next_outside b set) (found b set)

none_second : (o p : Option ℕ) → IsNone (option_or o p) → p ≡ None
none_second None None h = refl
none_second None (Some x) h = cc
none_second (Some y) p h = cc

no_image : (f : ℕ → ℕ) (o : Option ℕ) → option_map f o ≡ None → o ≡ None
no_image f None e = refl
no_image f (Some x) e = cc

not_whole : (set : List Bool) (o : Option ℕ) → IfSome o (IsOutside set) → IsWhole set → IsNone o
not_whole set None h whole = refl
not_whole set (Some f) h whole = let all = whole f h.0 in let lacks = h.1 in cc

-- none is found exactly where the set has every block
pub next_none : (b : ℕ) (set : List Bool) → IsNone (next_outside b set) ↔ IsWhole set
next_none b set = (
  (λ none. none_found set (no_image (λ i. 0 + i) (position not set)
      (none_second (first_outside b set) (first_outside 0 set) none))),
  not_whole set (next_outside b set) (found b set),
)
