-- The tags of a block.
use Rattle.std.proofs.Common.{◌≡◌, ℕ, zero, suc, ◌+◌, ◌-◌, ◌*◌, ◌≤◌, cond, List, [], ◌∷◌, ◌++◌, length, drop, replicate, slice_get, slice_set, count_by, Option, Some, None, refl, sym, ap, ◌∙◌, arith}
use Rattle.std.specs.List.{range_with_len}
use Rattle.std.proofs.Math.ListN.{length-set}
use Rattle.std.proofs.lemmas.List.{length-replicate}
use Rattle.mon_pool.specs.Region.{Held}
use Rattle.std.proofs.lemmas.List.Sums.{sum_by-cons}
use Rattle.aoe_client.specs.declared.tags.TagState.{TagState}
use Rattle.aoe_client.specs.declared.tags.TagState.TheVariants.{Due, Unanswered, Answered}
use Rattle.aoe_client.specs.Fetching.{Fetching, asked_for, due_from, due_of, first_tag, is_due, tag_sent}
use Rattle.aoe_client.specs.Asking.{Asking, due_tags, first_due, next_sent, slot_sent, then_sent}

-- the due tags are as many as there are tags that are due
pub length_due : (tag : ℕ) (tags : List TagState) → length (due_from tag tags) ≡ count_by is_due tags
length_due tag [] = refl
length_due tag (Due ∷ tags) = omega (
  arith,
  sum_by-cons (λ state. cond (is_due state) 1 0) Due tags,
  length_due
      (tag + 1) tags,
)
length_due tag (Unanswered ∷ tags) = omega (
  arith,
  sum_by-cons (λ state. cond (is_due state) 1 0) Unanswered tags,
  length_due
      (tag + 1) tags,
)
length_due tag (Answered ∷ tags) =
    omega (arith, sum_by-cons (λ state. cond (is_due state) 1 0) Answered tags, length_due (tag + 1) tags)

-- a tag that is due is none below the first of the tags
due_above : (tag : ℕ) (tags : List TagState) (first : ℕ) → slice_get (due_from tag tags) 0 ≡ Some first → tag ≤ first
due_above tag [] first is = cc
due_above tag (Due ∷ tags) first is = let same : tag ≡ first = cc in omega (arith, same)
due_above tag (Unanswered ∷ tags) first is = omega (arith, due_above (tag + 1) tags first is)
due_above tag (Answered ∷ tags) first is = omega (arith, due_above (tag + 1) tags first is)

-- tags once the request for the first due one, where there is one, was sent
abbrev first_sent : Option ℕ → ℕ → List TagState → List TagState
first_sent None tag tags = tags
first_sent (Some first) tag tags = slice_set tags (first - tag) Unanswered

due_left : (tag : ℕ) (tags : List TagState) (first : Option ℕ) → slice_get (due_from tag tags) 0 ≡ first
    → due_from tag (first_sent first tag tags) ≡ drop 1 (due_from tag tags)
due_left tag [] None is = refl
due_left tag [] (Some first) is = cc
due_left tag (Due ∷ tags) None is = cc
due_left tag (Due ∷ tags) (Some first) is =
    let same : tag ≡ first = cc in
    let here : first - tag ≡ 0 = omega (arith, same) in
    ap (λ k. due_from tag (slice_set (Due ∷ tags) k Unanswered)) here
due_left tag (Unanswered ∷ tags) None is = due_left (tag + 1) tags None is
due_left tag (Unanswered ∷ tags) (Some first) is =
    let behind : first - tag ≡ suc (first - (tag + 1)) = omega (arith, due_above (tag + 1) tags first is) in
    ap (λ k. due_from tag (slice_set (Unanswered ∷ tags) k Unanswered)) behind ∙ due_left (tag + 1) tags (Some first) is
due_left tag (Answered ∷ tags) None is = due_left (tag + 1) tags None is
due_left tag (Answered ∷ tags) (Some first) is =
    let behind : first - tag ≡ suc (first - (tag + 1)) = omega (arith, due_above (tag + 1) tags first is) in
    ap (λ k. due_from tag (slice_set (Answered ∷ tags) k Unanswered)) behind ∙ due_left (tag + 1) tags (Some first) is

slot_left_where : (f : Fetching) (first : Option ℕ) → first_due (Some f) ≡ first
    → due_of (Some (tag_sent first f)) ≡ drop 1 (due_of (Some f))
slot_left_where f None is = due_left (first_tag f) f.tags None is
slot_left_where f (Some first) is =
    ap (λ n. due_from (f.block * n) (slice_set f.tags (first - first_tag f) Unanswered))
    (length-set f.tags (first - first_tag f) Unanswered)
    ∙ due_left (first_tag f) f.tags (Some first) is

-- once the first due tag of a slot was sent the others are due
slot_left : (s : Option Fetching) → due_of (slot_sent s) ≡ drop 1 (due_of s)
slot_left None = refl
slot_left (Some f) = slot_left_where f (first_due (Some f)) refl

empty : (xs : List ℕ) → slice_get xs 0 ≡ None → xs ≡ []
empty [] is = refl
empty (x ∷ xs) is = cc

drop_front : (xs ys : List ℕ) (first : ℕ) → slice_get xs 0 ≡ Some first → drop 1 xs ++ ys ≡ drop 1 (xs ++ ys)
drop_front [] ys first is = cc
drop_front (x ∷ xs) ys first is = refl

left_where : (d b : Option Fetching) (first : Option ℕ) → first_due d ≡ first
    → due_of (slot_sent d) ++ due_of (then_sent first b) ≡ drop 1 (due_of d ++ due_of b)
left_where d b None is =
    let none = empty (due_of d) is in
    (λ i. (slot_left d ∙ ap (drop 1) none) i ++ slot_left b i) ∙ ap (λ xs. drop 1 (xs ++ due_of b)) (sym none)
left_where d b (Some first) is =
    ap (λ xs. xs ++ due_of b) (slot_left d) ∙ drop_front (due_of d) (due_of b) first is

-- once the first due tag of the client was sent the others are due
pub all_left : (c : Asking) → due_tags (next_sent c) ≡ drop 1 (due_tags c)
all_left c = left_where c.demand c.background (first_due c.demand) refl

due_new : (tag count : ℕ) → due_from tag (replicate count Due) ≡ range_with_len tag count
due_new tag zero = refl
due_new tag (suc count) = ap (λ rest. tag ∷ rest) (due_new (tag + 1) count)

-- of a block that was just asked for each tag is due
pub due_asked : (count block : ℕ) (lease : Held) → due_of (Some (asked_for count block lease))
    ≡ range_with_len (block * count) count
due_asked count block lease =
    ap (λ n. due_from (block * n) (replicate count Due)) (length-replicate count Due) ∙ due_new (block * count) count
