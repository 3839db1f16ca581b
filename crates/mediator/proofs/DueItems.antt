-- The items of the due tags, one by one.
use Rattle.std.proofs.Common.{◌≡◌, ℕ, zero, suc, ◌+◌, ◌≤◌, List, [], ◌∷◌, ◌++◌, length, take, slice_get, Option, Some, None, refl, sym, ap, ◌∙◌, arith}
use Rattle.std.proofs.lemmas.List.{append_assoc, length-append}
use Rattle.aoe_client.specs.declared.tags.TagState.{TagState}
use Rattle.aoe_client.specs.declared.tags.TagState.TheVariants.{Due, Unanswered, Answered}
use Rattle.aoe_client.specs.Fetching.{Fetching, due_from, due_of, first_tag}
use Rattle.aoe_client.specs.Asking.{Asking, HasTags, due_tags, tags_in}
use Rattle.fill_bitmap.specs.Area.{IsBlock}
use Rattle.schedule_text.specs.declared.Item.{Item}
use Rattle.schedule_text.specs.declared.Item.TheVariants.{Asked}
use Rattle.streaming.specs.Monitor.{asked_items}

one_more : (tags : List ℕ) (k tag : ℕ) → slice_get tags k ≡ Some tag
    → asked_items (take (suc k) tags) ≡ asked_items (take k tags) ++ asked_items (tag ∷ [])
one_more [] k tag is = cc
one_more (x ∷ tags) zero tag is = let same : x ≡ tag = cc in ap (λ x. asked_items (x ∷ [])) same
one_more (x ∷ tags) (suc k) tag is = ap (λ items. asked_items (x ∷ []) ++ items) (one_more tags k tag is)

-- behind the items of the first tags stands that of one tag more
pub told_one_more : (before items : List Item) (tags : List ℕ) (k tag : ℕ) → slice_get tags k ≡ Some tag
    → items ≡ before ++ asked_items (take k tags)
    → items ++ (Asked tag ∷ []) ≡ before ++ asked_items (take (k + 1) tags)
told_one_more before items tags k tag is so_far =
    let next : k + 1 ≡ suc k = omega arith in
    ap (λ items. items ++ (Asked tag ∷ [])) so_far
    ∙ append_assoc before (asked_items (take k tags)) (Asked tag ∷ [])
    ∙ ap (λ items. before ++ items) (sym (ap (λ n. asked_items (take n tags)) next ∙ one_more tags k tag is))

-- those of all, where there is none further on
pub all_told : (tags : List ℕ) (k : ℕ) → slice_get tags k ≡ None → take k tags ≡ tags
all_told [] zero is = refl
all_told [] (suc k) is = refl
all_told (x ∷ tags) zero is = cc
all_told (x ∷ tags) (suc k) is = ap (λ rest. x ∷ rest) (all_told tags k is)

-- once those of so many are told, and there are no more, all are
pub told_all : (before items : List Item) (tags : List ℕ) (k : ℕ) → take k tags ≡ tags
    → items ≡ before ++ asked_items (take k tags) → items ≡ before ++ asked_items tags
told_all before items tags k all so_far = so_far ∙ ap (λ tags. before ++ asked_items tags) all

few_due : (tag : ℕ) (tags : List TagState) → length (due_from tag tags) ≤ length tags
few_due tag [] = omega arith
few_due tag (Due ∷ tags) = omega (arith, few_due (tag + 1) tags)
few_due tag (Unanswered ∷ tags) = omega (arith, few_due (tag + 1) tags)
few_due tag (Answered ∷ tags) = omega (arith, few_due (tag + 1) tags)

few_tags : (block : ℕ) → IsBlock block → tags_in block ≤ 32
few_tags block is = grind (arith, is)

few_in : (block : ℕ) (slot : Option Fetching) → IsBlock block → HasTags block slot → length (due_of slot) ≤ 32
few_in block None is has = omega arith
few_in block (Some f) is has = omega (arith, few_due (first_tag f) f.tags, has, few_tags block is)

-- at most 64 tags are due at once
pub most_due : (c : Asking) → IsBlock c.block → HasTags c.block c.demand → HasTags c.block c.background
    → length (due_tags c) ≤ 64
most_due c is demand background = omega (
  arith,
  length-append (due_of c.demand) (due_of c.background),
  few_in c.block c.demand is demand,
  few_in c.block c.background is background,
)
