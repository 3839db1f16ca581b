-- Entries that go from one end of a ring to the other.
use Rattle.std.proofs.Common.{◌≡◌, ℕ, ◌+◌, ◌-◌, ◌<◌, ◌≤◌, Bool, List, [], ◌∷◌, ◌++◌, length, take, drop, get_or, suc, refl, sym, ap, ◌∙◌, arith, add-one, append_assoc, drop-cons, length-append, length-take, length-drop, take_at, drop_at, slice_get, Some, None}
use Rattle.std.proofs.lemmas.List.{drop_all, take_all}
use Rattle.std.specs.List.{filter}
use Rattle.circular_buffer.specs.Buffer.{last_item}
use Rattle.circular_buffer.proofs.Items.{turned_more as back_to_front}
use Rattle.circular_buffer.proofs.Places.{cut_end}
use Rattle.std.proofs.lemmas.Option.{slice_get_within, slice_get-get_or, get_or_from_slice_get}
use Rattle.std.proofs.lemmas.List.Elements.{filter_more}
use Rattle.std.proofs.lemmas.List.Sums.{length-filter, count_by-le-length}

module _ {X : Type 0} where
  pub length-filter-le : (p : X → Bool) (xs : List X) → length (filter p xs) ≤ length xs
  length-filter-le p xs = omega (arith, length-filter p xs, count_by-le-length p xs)

  -- one more passes: it goes from the front, and where it stays, behind the others
  pub passes_more : (p : X → Bool) (xs ys : List X) (i : ℕ) → i < length xs → ys ≡ drop i xs ++ filter p (take i xs)
      → drop 1 ys ++ filter p (take 1 ys) ≡ drop (i + 1) xs ++ filter p (take (i + 1) xs)
  passes_more p [] ys i within is = absurd (omega arith)
  passes_more p (d ∷ xs) ys i within is =
      let all = d ∷ xs in let x = get_or all i d in
      let rest = drop (suc i) all ++ filter p (take i all) in
      let front : ys ≡ x ∷ rest = is ∙ ap (λ l. l ++ filter p (take i all)) (drop-cons all i d within) in
      let more : filter p (take (i + 1) all) ≡ filter p (take i all) ++ filter p (x ∷ []) =
      filter_more p all i d within in
      ap (λ l. drop 1 l ++ filter p (take 1 l)) front
      ∙ append_assoc (drop (suc i) all) (filter p (take i all)) (filter p (x ∷ []))
      ∙ (λ j. drop (sym (add-one i) j) all ++ sym more j)

  -- and so many stay
  pub number_more : (p : X → Bool) (xs ys : List X) (i n m : ℕ) → i < length xs → ys ≡ drop i xs ++ filter p (take i xs)
      → n ≡ length (filter p (take i xs)) → m ≡ length (filter p (take 1 ys))
      → n + m ≡ length (filter p (take (i + 1) xs))
  number_more p [] ys i n m within is so_far one = absurd (omega arith)
  number_more p (d ∷ xs) ys i n m within is so_far one =
      let all = d ∷ xs in let x = get_or all i d in
      let front : ys ≡ x ∷ (drop (suc i) all ++ filter p (take i all)) = is ∙ ap (λ l. l ++ filter p (take i all))
      (drop-cons all i d within) in
      let m_is : m ≡ length (filter p (x ∷ [])) = one ∙ ap (λ l. length (filter p (take 1 l))) front in
      let more : length (filter p (take (i + 1) all)) ≡ length (filter p (take i all) ++ filter p (x ∷ [])) =
      ap length (filter_more p all i d within) in
      omega (arith, more, length-append (filter p (take i all)) (filter p (x ∷ [])))

  -- the last goes to the front
  pub turned_one : (xs : List X) (x : X) → last_item xs ≡ Some x
      → x ∷ take (length xs - 1) xs ≡ drop (length xs - 1) xs ++ take (length xs - 1) xs
  turned_one xs x is =
      let at = length xs - 1 in
      let within : at < length xs = slice_get_within xs at x is in
      let there : get_or xs at x ≡ x = get_or_from_slice_get xs at x x is in
      let end : drop (suc at) xs ≡ [] = drop_all (suc at) xs (omega arith) in
      ap (λ l. l ++ take at xs) (sym (drop-cons xs at x within ∙ (λ j. there j ∷ end j)))

  -- and there is room for it
  pub turned_within : (xs : List X) (x : X) (room : ℕ) → length xs ≤ room → last_item xs ≡ Some x
      → take room (x ∷ take (length xs - 1) xs) ≡ drop (length xs - 1) xs ++ take (length xs - 1) xs
  turned_within xs x room within is =
      let some : length xs - 1 < length xs = slice_get_within xs (length xs - 1) x is in
      let fits : length (x ∷ take (length xs - 1) xs) ≤ room = omega (arith, length-take (length xs - 1) xs) in
      take_all room (x ∷ take (length xs - 1) xs) fits ∙ turned_one xs x is

  -- without a last one there is none
  pub turned_none : (xs : List X) → last_item xs ≡ None
      → take (length xs - 1) xs ≡ drop (length xs - 1) xs ++ take (length xs - 1) xs
  turned_none [] is = refl
  turned_none (x ∷ xs) is =
      let at = length (x ∷ xs) - 1 in
      let within : at < length (x ∷ xs) = omega arith in
      let there : slice_get (x ∷ xs) at ≡ Some (get_or (x ∷ xs) at x) = slice_get-get_or (x ∷ xs) at x within in
      cc

  -- one more goes to the front
  pub turned_more : (xs ys : List X) (j k : ℕ) → j ≡ suc k → j ≤ length xs → ys ≡ drop j xs ++ take j xs
      → drop (length ys - 1) ys ++ take (length ys - 1) ys ≡ drop k xs ++ take k xs
  turned_more xs ys j k step within is =
      let long : length ys ≡ length xs = omega (
        arith,
        ap length is,
        length-append (drop j xs)
            (take j xs),
        length-drop j xs,
        length-take j xs,
      ) in
      let cut = cut_end ys (omega arith) in
      let rest = cut.0 in let x = cut.1 in
      let at : length ys - 1 ≡ length rest = omega (arith, ap length cut.2, length-append rest (x ∷ [])) in
      (λ i. drop (at i) (cut.2 i) ++ take (at i) (cut.2 i))
      ∙ (λ i. drop_at rest (x ∷ []) (length rest) refl i ++ take_at rest (x ∷ []) (length rest) refl i)
      ∙ back_to_front xs rest x j k step within (sym is ∙ cut.2)

-- an entry is taken out of the middle: `f` are those before it that stay, and stand behind
module _ {X : Type 0} (xs ys f : List X) (k : ℕ) (x : X) (there : slice_get xs k ≡ Some x)
    (passed : ys ≡ drop k xs ++ f) where
  after_it : ys ≡ x ∷ (drop (suc k) xs ++ f)
  after_it =
      let within : k < length xs = slice_get_within xs k x there in
      let here : get_or xs k x ≡ x = get_or_from_slice_get xs k x x there in
      passed ∙ ap (λ l. l ++ f) (drop-cons xs k x within ∙ ap (λ y. y ∷ drop (suc k) xs) here)

  -- it stands at the front
  pub taken_first : slice_get ys 0 ≡ Some x
  taken_first = ap (λ l. slice_get l 0) after_it

  -- and when those that stay are back, they stand before the newer ones
  pub taken_out : (n : ℕ) → n ≡ length f
      → drop (length (drop 1 ys) - n) (drop 1 ys) ++ take (length (drop 1 ys) - n) (drop 1 ys) ≡ f ++ drop (k + 1) xs
  taken_out n number =
      let newer = drop (suc k) xs in
      let left : drop 1 ys ≡ newer ++ f = ap (drop 1) after_it in
      let at : length (drop 1 ys) - n ≡ length newer = omega (arith, number, ap length left, length-append newer f) in
      (λ i. drop (at i) (left i) ++ take (at i) (left i))
      ∙ (λ i. drop_at newer f (length newer) refl i ++ take_at newer f (length newer) refl i)
      ∙ ap (λ m. f ++ drop m xs) (sym (add-one k))
