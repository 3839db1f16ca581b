-- The values of one sector in a list of entries.
use Rattle.std.proofs.Common.{◌≡◌, ◌≢◌, ℕ, ◌+◌, ◌<◌, Bool, true, false, not, cond, eqb, List, [], ◌∷◌, ◌++◌, length, map, reverse, take, drop, get_or, slice_get, Some, refl, sym, ap, ◌∙◌, inl, inr, add-one, append_assoc, append-nil, drop-cons, take-append-drop}
use Rattle.std.specs.List.{filter, find}
use Rattle.std.specs.Option.{option_map}
use Rattle.std.proofs.lemmas.Bool.{cases_Bool, cond-true, cond-false, eqb-true, eq-eqb, ne_eqb, false_from_ne_true, true≢false, not-true, not_from_false}
use Rattle.std.proofs.lemmas.List.{map-append, reverse-append}
use Rattle.std.proofs.lemmas.List.Elements.{filter-append}
use Rattle.std.proofs.lemmas.Option.{slice_get_within, get_or_from_slice_get}
use Rattle.write_cache.specs.declared.entry.Entry.{Entry}
use Rattle.write_cache.specs.Cache.{is_of, entries_of, entries_but, values_of, newest_of, taken, taken_at}

module _ {X : Type 0} where
  -- a filter that keeps all that another asks for changes nothing for it
  filter_of_filter : (p q : X → Bool) → ((x : X) → p x ≡ true → q x ≡ true) → (xs : List X)
      → filter p (filter q xs) ≡ filter p xs
  filter_of_filter p q keeps [] = refl
  filter_of_filter p q keeps (x ∷ xs) =
      let rest = filter_of_filter p q keeps xs in
      elim (cases_Bool (q x)) [
        | inl h ↦ ap (filter p) (cond-true (q x) (x ∷ filter q xs) (filter q xs) h)
            ∙ (λ i. cond (p x) (x ∷ rest i) (rest i))
        | inr h ↦
            let no : p x ≡ false = false_from_ne_true (p x) (λ e. true≢false (sym (keeps x e) ∙ h)) in
            ap (filter p) (cond-false (q x) (x ∷ filter q xs) (filter q xs) h) ∙ rest
            ∙ sym (cond-false (p x) (x ∷ filter p xs) (filter p xs) no)
      ]

  -- one that keeps nothing of what another asks for leaves it nothing
  filter_none : (p q : X → Bool) → ((x : X) → q x ≡ true → p x ≡ false) → (xs : List X) → filter p (filter q xs) ≡ []
  filter_none p q apart [] = refl
  filter_none p q apart (x ∷ xs) =
      let rest = filter_none p q apart xs in
      elim (cases_Bool (q x)) [
        | inl h ↦ ap (filter p) (cond-true (q x) (x ∷ filter q xs) (filter q xs) h)
            ∙ cond-false (p x) (x ∷ filter p (filter q xs)) (filter p (filter q xs)) (apart x h) ∙ rest
        | inr h ↦ ap (filter p) (cond-false (q x) (x ∷ filter q xs) (filter q xs) h) ∙ rest
      ]

  one_reversed : (b : Bool) (x : X) → cond b (x ∷ []) [] ≡ reverse (cond b (x ∷ []) [])
  one_reversed true x = refl
  one_reversed false x = refl

  filter-reverse : (p : X → Bool) (xs : List X) → filter p (reverse xs) ≡ reverse (filter p xs)
  filter-reverse p [] = refl
  filter-reverse p (x ∷ xs) =
      let one = filter p (x ∷ []) in
      ap (filter p) (reverse-append (x ∷ []) xs)
      ∙ filter-append p (reverse xs) (x ∷ [])
      ∙ (λ i. filter-reverse p xs i ++ one_reversed (p x) x i)
      ∙ sym (reverse-append one (filter p xs))
      ∙ ap reverse (sym (filter-append p (x ∷ []) xs))

  map-reverse : {Y : Type 0} (f : X → Y) (xs : List X) → map f (reverse xs) ≡ reverse (map f xs)
  map-reverse f [] = refl
  map-reverse f (x ∷ xs) =
      ap (map f) (reverse-append (x ∷ []) xs)
      ∙ map-append f (reverse xs) (x ∷ [])
      ∙ ap (λ l. l ++ f x ∷ []) (map-reverse f xs)
      ∙ sym (reverse-append (f x ∷ []) (map f xs))

  -- what is found is the first of what passes
  found_first : {Y : Type 0} (f : X → Y) (p : X → Bool) (xs : List X)
      → option_map f (find p xs) ≡ slice_get (map f (filter p xs)) 0
  found_first f p [] = refl
  found_first f p (x ∷ xs) = elim (cases_Bool (p x)) [
    | inl h ↦ ap (option_map f) (cond-true (p x) (Some x) (find p xs) h) ∙ ap (λ l. slice_get (map f l) 0)
        (sym (cond-true (p x) (x ∷ filter p xs) (filter p xs) h))
    | inr h ↦ ap (option_map f) (cond-false (p x) (Some x) (find p xs) h) ∙ found_first f p xs
        ∙ ap (λ l. slice_get (map f l) 0) (sym (cond-false (p x) (x ∷ filter p xs) (filter p xs) h))
  ]

-- of two lists in a row the values of the second are the newer
values_of-append : (s : ℕ) (xs ys : List Entry) → values_of s (xs ++ ys) ≡ values_of s ys ++ values_of s xs
values_of-append s xs ys =
    let f = λ (e : Entry). e.bytes in
    ap (λ l. reverse (map f l)) (filter-append (is_of s) xs ys)
    ∙ ap reverse (map-append f (entries_of s xs) (entries_of s ys))
    ∙ reverse-append (map f (entries_of s xs)) (map f (entries_of s ys))

values_of_own : (e : Entry) → values_of e.sector (e ∷ []) ≡ e.bytes ∷ []
values_of_own e = ap (λ l. reverse (map (λ (x : Entry). x.bytes) l))
    (cond-true (eqb e.sector e.sector) (e ∷ []) [] (eq-eqb e.sector e.sector refl))

values_of_another : (s : ℕ) (e : Entry) → e.sector ≢ s → values_of s (e ∷ []) ≡ []
values_of_another s e apart = ap (λ l. reverse (map (λ (x : Entry). x.bytes) l))
    (cond-false (eqb e.sector s) (e ∷ []) [] (ne_eqb e.sector s apart))

-- a written entry's value is its sector's newest
pub newest_own : (e : Entry) (xs : List Entry) → values_of e.sector (xs ++ e ∷ []) ≡ e.bytes ∷ values_of e.sector xs
newest_own e xs = values_of-append e.sector xs (e ∷ []) ∙ ap (λ l. l ++ values_of e.sector xs) (values_of_own e)

-- and no other sector's
pub newest_another : (e : Entry) (xs : List Entry) (s : ℕ) → e.sector ≢ s → values_of s (xs ++ e ∷ []) ≡ values_of s xs
newest_another e xs s apart = values_of-append s xs (e ∷ []) ∙ ap (λ l. l ++ values_of s xs)
    (values_of_another s e apart)

pub newest_leads : (s : ℕ) (xs : List Entry) → option_map (λ e. e.bytes) (newest_of s xs) ≡ slice_get (values_of s xs) 0
newest_leads s xs =
    let f = λ (e : Entry). e.bytes in
    found_first f (is_of s) (reverse xs)
    ∙ ap (λ l. slice_get l 0) (ap (map f) (filter-reverse (is_of s) xs) ∙ map-reverse f (entries_of s xs))

pub oldest_own : (e : Entry) (xs : List Entry) → values_of e.sector (e ∷ xs) ≡ values_of e.sector xs ++ e.bytes ∷ []
oldest_own e xs = values_of-append e.sector (e ∷ []) xs ∙ ap (λ l. values_of e.sector xs ++ l) (values_of_own e)

pub oldest_another : (e : Entry) (xs : List Entry) (s : ℕ) → e.sector ≢ s → values_of s (e ∷ xs) ≡ values_of s xs
oldest_another e xs s apart =
    values_of-append s (e ∷ []) xs ∙ ap (λ l. values_of s xs ++ l) (values_of_another s e apart)
    ∙ append-nil (values_of s xs)

-- the list around entry k
around : (k : ℕ) (xs : List Entry) (e : Entry) → slice_get xs k ≡ Some e → xs ≡ take k xs ++ e ∷ drop (k + 1) xs
around k xs e there =
    let within : k < length xs = slice_get_within xs k e there in
    let here : get_or xs k e ≡ e = get_or_from_slice_get xs k e e there in
    sym (take-append-drop k xs)
    ∙ ap (λ l. take k xs ++ l) (drop-cons xs k e within ∙ (λ i. here i ∷ drop (sym (add-one k) i) xs))

taken_is : (k : ℕ) (xs : List Entry) (e : Entry) → slice_get xs k ≡ Some e
    → taken_at k xs ≡ entries_but e.sector (take k xs) ++ drop (k + 1) xs
taken_is k xs e there = ap (λ o. taken o k xs) there

pub taken_own : (k : ℕ) (xs : List Entry) (e : Entry) → slice_get xs k ≡ Some e
    → values_of e.sector (taken_at k xs) ≡ values_of e.sector (drop (k + 1) xs)
taken_own k xs e there =
    let s = e.sector in let newer = drop (k + 1) xs in
    let none : entries_of s (entries_but s (take k xs)) ≡ [] = filter_none (is_of s) (λ x. not (is_of s x))
    (λ x h. not-true (is_of s x) h) (take k xs) in
    ap (values_of s) (taken_is k xs e there)
    ∙ values_of-append s (entries_but s (take k xs)) newer
    ∙ ap (λ l. values_of s newer ++ reverse (map (λ (x : Entry). x.bytes) l)) none
    ∙ append-nil (values_of s newer)

pub taken_another : (k : ℕ) (xs : List Entry) (e : Entry) (s : ℕ) → slice_get xs k ≡ Some e → e.sector ≢ s
    → values_of s (taken_at k xs) ≡ values_of s xs
taken_another k xs e s there apart =
    let t = e.sector in let newer = drop (k + 1) xs in let older = take k xs in
    let stays : (x : Entry) → is_of s x ≡ true → not (is_of t x) ≡ true
    = λ x h. not_from_false (is_of t x) (ne_eqb x.sector t (λ same. apart (sym same ∙ eqb-true x.sector s h))) in
    let all : entries_of s (entries_but t older) ≡ entries_of s older = filter_of_filter (is_of s)
    (λ x. not (is_of t x)) stays older in
    ap (values_of s) (taken_is k xs e there)
    ∙ values_of-append s (entries_but t older) newer
    ∙ (λ i. sym (oldest_another e newer s apart) i ++ reverse (map (λ (x : Entry). x.bytes) (all i)))
    ∙ sym (values_of-append s older (e ∷ newer))
    ∙ ap (values_of s) (sym (around k xs e there))

pub taken_between : (k : ℕ) (xs : List Entry) (e : Entry) → slice_get xs k ≡ Some e
    → values_of e.sector xs ≡ values_of e.sector (drop (k + 1) xs) ++ e.bytes ∷ values_of e.sector (take k xs)
taken_between k xs e there =
    let s = e.sector in let newer = drop (k + 1) xs in let older = take k xs in
    ap (values_of s) (around k xs e there)
    ∙ values_of-append s older (e ∷ newer)
    ∙ ap (λ l. l ++ values_of s older) (oldest_own e newer)
    ∙ append_assoc (values_of s newer) (e.bytes ∷ []) (values_of s older)
