-- The search for the places of a sector, as the code goes, finds what the run has.
use Rattle.std.proofs.Common.{◌≡◌, ℕ, zero, suc, ◌+◌, ◌-◌, ◌*◌, ◌/◌, ◌<◌, ◌≤◌, ◌==◌, min, Bool, true, false, ◌&&◌, ◌||◌, if◌then◌else◌, List, [], ◌++◌, length, take, drop, arith, refl, sym, ap, inl, inr, ◌∙◌, append_assoc, length-append, length-drop, length-take}
use Rattle.byteorder.specs.Endian.{little_number}
use Rattle.std.proofs.Math.Seq.{take-nil, drop-nil}
use Rattle.std.proofs.lemmas.List.{append-nil}
use Rattle.std.proofs.lemmas.List.FromFn.{length-range_with_len}
use Rattle.std.proofs.lemmas.Bool.{cases_eq, eq-eqb, ne_eqb}
use Rattle.std.proofs.lemmas.Bool.Decides.{nat_tests}
use Rattle.bm_dma.specs.declared.descriptor.Descriptor.{Descriptor}
use Rattle.bm_dma.specs.declared.search.Found.{Found}
use Rattle.bm_dma.specs.declared.search.Found.TheVariants.{All, TableEnded, Bad}
use Rattle.bm_dma.specs.Descriptor.{bytes_meant, descriptor_in, is_good, with_piece, places_of}
use Rattle.bm_dma.specs.Run.{Run, run_with, run_from, run_of, sector_places, found_in}
use Rattle.bm_dma.proofs.Lists.{take_both, drop_both}

pub record Result : Type 0 where
  pub found : Found
  pub places : List ℕ

abbrev pub result : Found → List ℕ → Result
result found places = record { found = found; places = places }

-- a descriptor that isn't bad, with the places that are then found, and the search behind it
abbrev pub good_one : Descriptor → ℕ → List ℕ → Result → Result
good_one d end found rest =
    if length found == 512 then result (All (d.is_last && (d.count == end))) found
    else (if d.is_last then result TableEnded found else rest)

abbrev pub searched : Descriptor → ℕ → ℕ → List ℕ → Result → Result
searched d size skipped found rest =
    if is_good d size then good_one d (skipped + (512 - length found)) (with_piece d skipped found)
    rest else result Bad found

-- the search from a place on, behind which so many descriptors are in memory
abbrev pub search_from : ℕ → ℕ → List ℕ → ℕ → List ℕ → Result
search_from zero at memory skipped found = result Bad found
search_from (suc n) at memory skipped found =
    searched (descriptor_in (drop at memory)) (length memory) skipped found
    (search_from n (at + 8) memory (skipped - (descriptor_in (drop at memory)).count)
    (with_piece (descriptor_in (drop at memory)) skipped found))

-- what is found, by whether all places are there, whether the last of them is the table's last, and whether the table
-- has an end
abbrev pub found_as : Bool → Bool → Bool → Found
found_as full last ended = if full then All last else (if ended then TableEnded else Bad)

-- what the run behind a search's places so far gives
abbrev pub expected : ℕ → List ℕ → List ℕ → Bool → Result
expected skipped found places ended =
    result (found_as (length (found ++ take (512 - length found) (drop skipped places)) == 512)
    (ended && (length places == skipped + (512 - length found))) ended)
    (found ++ take (512 - length found) (drop skipped places))

-- a run that is ended by the mark has a place
abbrev HasPlace : Run → Type 0
HasPlace run = run.ended ≡ true → 0 < length run.places

meant_some : (n : ℕ) → 0 < bytes_meant n
meant_some zero = omega arith
meant_some (suc n) = omega arith

same_test : (a b c d : ℕ) → (a ≡ b → c ≡ d) → (c ≡ d → a ≡ b) → (a == b) ≡ (c == d)
same_test a b c d there back = grind (arith, nat_tests)

length_piece : (d : Descriptor) (skipped : ℕ) (found : List ℕ)
    → length (with_piece d skipped found) ≡ length found + min (512 - length found) (d.count - skipped)
length_piece d skipped found =
    omega (
      arith,
      length-append found (take (512 - length found) (drop skipped (places_of d))),
      length-take (512 - length found) (drop skipped (places_of d)),
      length-drop skipped (places_of d),
      length-range_with_len d.base d.count,
    )

-- a bad descriptor ends the search with what is found
bad_one : (skipped : ℕ) (found : List ℕ) → length found < 512 → result Bad found ≡ expected skipped found [] false
bad_one skipped found few =
    let nothing : take (512 - length found) (drop skipped []) ≡ [] = ap (take (512 - length found)) (drop-nil skipped)
    ∙ take-nil (512 - length found) in
    let all : found ++ take (512 - length found) (drop skipped []) ≡ found = ap (λ xs. found ++ xs) nothing
    ∙ append-nil found in
    rw all (rw (ne_eqb (length found) 512 (λ e. omega arith)) refl)

-- what is found at the mark of the end
last_found : (full at_end : Bool) (found : List ℕ)
    → (if full then result (All (true && at_end)) found else result TableEnded found) ≡ result
    (found_as full (true && at_end) true) found
last_found true at_end found = refl
last_found false at_end found = refl

-- the table's last descriptor
last_one : (d : Descriptor) (skipped : ℕ) (found : List ℕ) (rest : Result) → d.is_last ≡ true
    → good_one d (skipped + (512 - length found)) (with_piece d skipped found) rest ≡ expected skipped found
    (places_of d ++ []) true
last_one d skipped found rest last =
    rw (append-nil (places_of d), last, length-range_with_len d.base d.count)
    (last_found (length (with_piece d skipped found) == 512) (d.count == skipped + (512 - length found))
    (with_piece d skipped found))

-- the places of a sector, of a descriptor and of what stands behind it
both : (d : Descriptor) (skipped m : ℕ) (found rest : List ℕ) → m ≡ (512 - length found) - (d.count - skipped)
    → found ++ take (512 - length found) (drop skipped (places_of d ++ rest)) ≡ with_piece d skipped found ++ take m
    (drop (skipped - d.count) rest)
both d skipped m found rest e =
    let parts = drop_both skipped (skipped - d.count) (places_of d) rest
    (omega (arith, length-range_with_len d.base d.count)) in
    let taken = take_both (512 - length found) m (drop skipped (places_of d)) (drop (skipped - d.count) rest)
    (omega (arith, length-drop skipped (places_of d), length-range_with_len d.base d.count)) in
    ap (λ xs. found ++ take (512 - length found) xs) parts ∙ ap (λ xs. found ++ xs) taken
    ∙ sym (append_assoc found (take (512 - length found) (drop skipped (places_of d)))
    (take m (drop (skipped - d.count) rest)))

pub length_both : (d : Descriptor) (rest : List ℕ) → length (places_of d ++ rest) ≡ d.count + length rest
length_both d rest = omega (arith, length-append (places_of d) rest, length-range_with_len d.base d.count)

-- a sector that ends elsewhere is not the table's last
not_at_end : (ended : Bool) (a b : ℕ) → (ended ≡ true → a ≡ b → ⊥) → false ≡ (ended && (a == b))
not_at_end false a b apart = refl
not_at_end true a b apart = sym (ne_eqb a b (apart refl))

-- a sector that a descriptor completes, which is not the table's last
completed : (d : Descriptor) (skipped : ℕ) (found : List ℕ) (run : Run) (rest : Result) → d.is_last ≡ false
    → HasPlace run → length found < 512
    → length (with_piece d skipped found) ≡ 512
    → good_one d (skipped + (512 - length found)) (with_piece d skipped found) rest ≡ expected skipped found
    (places_of d ++ run.places) run.ended
completed d skipped found run rest last has few full =
    let whole = both d skipped 0 found run.places (omega (arith, length_piece d skipped found)) in
    let same : found ++ take (512 - length found) (drop skipped (places_of d ++ run.places)) ≡ with_piece
    d skipped found = whole ∙ append-nil (with_piece d skipped found) in
    let apart : false ≡ (run.ended && (length (places_of d ++ run.places) == skipped + (512 - length found))) =
    not_at_end run.ended (length (places_of d ++ run.places)) (skipped + (512 - length found))
    (λ ends e. let some = has ends in omega (arith, length_piece d skipped found, length_both d run.places)) in
    rw (same, eq-eqb (length (with_piece d skipped found)) 512 full, last)
    (ap (λ end. result (All end) (with_piece d skipped found)) apart)

-- a descriptor that leaves places to find behind it
passed : (d : Descriptor) (skipped : ℕ) (found : List ℕ) (run : Run) (rest : Result) → d.is_last ≡ false
    → length found < 512
    → (length (with_piece d skipped found) ≡ 512 → ⊥)
    → rest ≡ expected (skipped - d.count) (with_piece d skipped found) run.places run.ended
    → good_one d (skipped + (512 - length found)) (with_piece d skipped found) rest ≡ expected skipped found
    (places_of d ++ run.places) run.ended
passed d skipped found run rest last few part found_behind =
    let whole = both d skipped (512 - length (with_piece d skipped found)) found run.places
    (omega (arith, length_piece d skipped found)) in
    let ends : (length run.places == (skipped - d.count) + (512 - length (with_piece d skipped found))) ≡ (length
    (places_of d ++ run.places) == skipped + (512 - length found)) =
    same_test (length run.places) ((skipped - d.count) + (512 - length (with_piece d skipped found)))
    (length (places_of d ++ run.places)) (skipped + (512 - length found))
    (λ e. omega (arith, length_piece d skipped found, length_both d run.places))
    (λ e. omega (arith, length_piece d skipped found, length_both d run.places)) in
    rw (ne_eqb (length (with_piece d skipped found)) 512 part, last, found_behind, whole, ends) refl

-- one descriptor more
good_step : (d : Descriptor) (skipped : ℕ) (found : List ℕ) (run : Run) (rest : Result) (last : Bool)
    → d.is_last ≡ last → HasPlace run → length found < 512
    → (length (with_piece d skipped found) < 512 → rest ≡ expected (skipped - d.count)
    (with_piece d skipped found) run.places run.ended)
    → good_one d (skipped + (512 - length found)) (with_piece d skipped found) rest
    ≡ expected skipped found (places_of d ++ (if last then [] else run.places)) (last || run.ended)
good_step d skipped found run rest true last has few behind = last_one d skipped found rest last
good_step d skipped found run rest false last has few behind =
    elim (cases_eq (length (with_piece d skipped found)) 512) [
      | inl full ↦ completed d skipped found run rest last has few full
      | inr part ↦ passed d skipped found run rest last few part (behind (omega (arith, length_piece d skipped found)))
    ]

one_step : (d : Descriptor) (size skipped : ℕ) (found : List ℕ) (run : Run) (rest : Result) (good : Bool)
    → is_good d size ≡ good → HasPlace run → length found < 512
    → (length (with_piece d skipped found) < 512 → rest ≡ expected (skipped - d.count)
    (with_piece d skipped found) run.places run.ended)
    → searched d size skipped found rest ≡ expected skipped found (run_with d size run).places
    (run_with d size run).ended
one_step d size skipped found run rest false bad has few behind = rw bad (bad_one skipped found few)
one_step d size skipped found run rest true good has few behind =
    rw good (good_step d skipped found run rest d.is_last refl has few behind)

has_with : (d : Descriptor) (size : ℕ) (run : Run) (good : Bool) → is_good d size ≡ good → 0 < d.count
    → HasPlace (run_with d size run)
has_with d size run false bad some = rw bad (λ e. let no : false ≡ true = e in cc)
has_with d size run true good some = rw good (λ _. omega (arith, length_both d (if d.is_last then [] else run.places)))

has_place : (n at : ℕ) (memory : List ℕ) → HasPlace (run_from n at memory)
has_place zero at memory = λ e. let no : false ≡ true = e in cc
has_place (suc n) at memory =
    has_with (descriptor_in (drop at memory)) (length memory) (run_from n (at + 8) memory)
    (is_good (descriptor_in (drop at memory)) (length memory)) refl
    (meant_some (little_number 2 (drop 4 (drop at memory))))

-- the search finds what the run has
finds : (n at : ℕ) (memory : List ℕ) (skipped : ℕ) (found : List ℕ) → length found < 512
    → search_from n at memory skipped found ≡ expected skipped found (run_from n at memory).places
    (run_from n at memory).ended
finds zero at memory skipped found few = bad_one skipped found few
finds (suc n) at memory skipped found few =
    let d = descriptor_in (drop at memory) in
    one_step d (length memory) skipped found (run_from n (at + 8) memory)
    (search_from n (at + 8) memory (skipped - d.count) (with_piece d skipped found))
    (is_good d (length memory)) refl (has_place n (at + 8) memory) few
    (finds n (at + 8) memory (skipped - d.count) (with_piece d skipped found))

-- what is found is what the run has for the sector
pub record IsFound (moved : ℕ) (run : Run) (f : Found) (l : List ℕ) : Type 0 where
  pub places : l ≡ sector_places moved run
  pub found : f ≡ found_in moved run

-- what the whole search finds is what the run has for the sector
pub found_all : (pointer moved : ℕ) (memory : List ℕ) (f : Found) (places : List ℕ)
    → search_from ((length memory - pointer) / 8) pointer memory (moved * 512) [] ≡ result f places
    → IsFound moved (run_of pointer memory) f places
found_all pointer moved memory f places e =
    let turned : moved * 512 ≡ 512 * moved = omega arith in
    let is = sym e ∙ (ap (λ k. search_from ((length memory - pointer) / 8) pointer memory k []) turned
    ∙ finds ((length memory - pointer) / 8) pointer memory (512 * moved) [] (omega arith)) in
    record { places = ap (λ r. r.places) is; found = ap (λ r. r.found) is }

-- the search at a descriptor of which so many are in memory
at_one : (n i at skipped : ℕ) (memory found : List ℕ) (d : Descriptor) → i < n → d ≡ descriptor_in (drop at memory)
    → search_from (n - i) at memory skipped found
    ≡ searched d (length memory) skipped found (search_from (n - (i + 1)) (at + 8) memory (skipped - d.count)
    (with_piece d skipped found))
at_one n i at skipped memory found d below is = let more : n - i ≡ suc (n - (i + 1)) = omega arith in rw (more, is) refl

-- the next one isn't all in memory
pub meets_end : (n i at skipped : ℕ) (memory found : List ℕ) → n ≤ i
    → search_from (n - i) at memory skipped found ≡ result Bad found
meets_end n i at skipped memory found past = let none : n - i ≡ 0 = omega arith in rw none refl

-- it is bad
pub meets_bad : (n i at skipped : ℕ) (memory found : List ℕ) (d : Descriptor) → i < n
    → d ≡ descriptor_in (drop at memory)
    → is_good d (length memory) ≡ false
    → search_from (n - i) at memory skipped found ≡ result Bad found
meets_bad n i at skipped memory found d below is bad = at_one n i at skipped memory found d below is ∙ rw bad refl

-- it completes the sector
pub completes : (n i at skipped end : ℕ) (memory found more : List ℕ) (d : Descriptor) (last : Bool)
    → i < n → d ≡ descriptor_in (drop at memory)
    → is_good d (length memory) ≡ true → end ≡ skipped + (512 - length found) → more ≡ with_piece d skipped found
    → length more ≡ 512
    → last ≡ (d.is_last && (d.count == end))
    → search_from (n - i) at memory skipped found ≡ result (All last) more
completes n i at skipped end memory found more d last below is good e piece full tables =
    let complete : length (with_piece d skipped found) ≡ 512 = sym (ap length piece) ∙ full in
    at_one n i at skipped memory found d below is
    ∙ rw (good, eq-eqb (length (with_piece d skipped found)) 512 complete, piece, tables, e) refl

-- it is the table's last, and leaves places to find
pub ends_table : (n i at skipped : ℕ) (memory found more : List ℕ) (d : Descriptor) → i < n
    → d ≡ descriptor_in (drop at memory)
    → is_good d (length memory) ≡ true → more ≡ with_piece d skipped found → (length more ≡ 512 → ⊥) → d.is_last ≡ true
    → search_from (n - i) at memory skipped found ≡ result TableEnded more
ends_table n i at skipped memory found more d below is good piece part last =
    let short : length (with_piece d skipped found) ≡ 512 → ⊥ = (λ e. part (ap length piece ∙ e)) in
    at_one n i at skipped memory found d below is
    ∙ rw (good, ne_eqb (length (with_piece d skipped found)) 512 short, piece, last) refl

-- the search goes on behind it
pub goes_on : (n i at next skipped rest : ℕ) (memory found more : List ℕ) (d : Descriptor) → i < n
    → d ≡ descriptor_in (drop at memory)
    → is_good d (length memory) ≡ true → more ≡ with_piece d skipped found → (length more ≡ 512 → ⊥) → d.is_last ≡ false
    → next ≡ at + 8 → rest ≡ skipped - d.count
    → search_from (n - (i + 1)) next memory rest more ≡ search_from (n - i) at memory skipped found
goes_on n i at next skipped rest memory found more d below is good piece part last place left =
    let short : length (with_piece d skipped found) ≡ 512 → ⊥ = (λ e. part (ap length piece ∙ e)) in
    sym (at_one n i at skipped memory found d below is
    ∙ rw (good, ne_eqb (length (with_piece d skipped found)) 512 short, piece, last, place, left) refl)

-- a piece never has more places than a sector
pub piece_fits : (d : Descriptor) (skipped : ℕ) (found more : List ℕ) → length found < 512
    → more ≡ with_piece d skipped found → (length more ≡ 512 → ⊥)
    → length more < 512
piece_fits d skipped found more few piece part = omega (arith, ap length piece, length_piece d skipped found)
