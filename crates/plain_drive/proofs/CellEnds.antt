-- Cells that hold the newest values of others, after each change of what is kept.
use Rattle.std.proofs.Common.{◌≡◌, ◌≢◌, ℕ, ◌+◌, ◌<◌, ◌≤◌, zero, suc, Bool, true, false, List, [], ◌∷◌, ◌++◌, slice_index_or, slice_set, slice_get, take, drop, Option, Some, None, refl, sym, ap, ◌∙◌, subst, append_assoc, arith}
use Rattle.std.specs.Prelude.{if◌then◌else◌, Contains}
use Rattle.std.proofs.lemmas.List.Elements.{Contains-append_left, Contains-push}
use Rattle.ata_taskfile.specs.Device.{Cell}
use Rattle.write_cache.specs.declared.entry.Entry.{Entry}
use Rattle.write_cache.specs.Cache.{entry_of, entries_kept, is_full, put_out, taken, taken_at, values_of, written}
use Rattle.write_cache.proofs.Values.{newest_own, newest_another, taken_own, taken_another, taken_between}
use Rattle.plain_drive.specs.Plain.{current, settled, stored, appended, all_flushed}
use Rattle.plain_drive.specs.Change.{Change, leaves, writes, flushes, cells_after}
use Rattle.plain_drive.specs.Cut.{IsOutcome}
use Rattle.plain_drive.specs.Physical.{Kept, cells_from, cells_of, made_durable, put_durable, all_durable, kept_after, kept_destaged, IsEndOf, AreEndsOf}

-- the first of the values is the current one
first_value : (durable default : List ℕ) (written : List (List ℕ))
    → slice_index_or (written ++ durable ∷ []) 0 default ≡ slice_index_or written 0 durable
first_value durable default [] = refl
first_value durable default (value ∷ written) = refl

first_of_more : (durable default : List ℕ) (written older : List (List ℕ))
    → slice_index_or ((written ++ durable ∷ []) ++ older) 0 default ≡ slice_index_or written 0 durable
first_of_more durable default [] older = refl
first_of_more durable default (value ∷ written) older = refl

-- an end has the same current value
end-current : (cell whole : Cell) → IsEndOf cell whole → current whole ≡ current cell
end-current cell whole end =
    sym (first_value whole.durable [] whole.written)
    ∙ ap (λ l. slice_index_or l 0 []) end.1
    ∙ first_of_more cell.durable [] cell.written end.0

-- ends of cells have the same current value in each sector
pub ends-current : (cells wholes : List Cell) (s : ℕ) → AreEndsOf cells wholes
    → current (slice_index_or cells s (settled [])) ≡ current (slice_index_or wholes s (settled []))
ends-current [] [] s ends = refl
ends-current [] (whole ∷ wholes) s ends = absurd ends
ends-current (cell ∷ cells) [] s ends = absurd ends
ends-current (cell ∷ cells) (whole ∷ wholes) zero ends = sym (end-current cell whole ends.0)
ends-current (cell ∷ cells) (whole ∷ wholes) (suc s) ends = ends-current cells wholes s ends.1

-- entries that give each sector from this one on the same values make the same cells
same_cells : (old new : List Entry) (n : ℕ) (durable : List (List ℕ))
    → ((s : ℕ) → n ≤ s → values_of s new ≡ values_of s old)
    → cells_from n new durable ≡ cells_from n old durable
same_cells old new n [] same = refl
same_cells old new n (value ∷ durable) same =
    let here = same n (omega arith) in
    let rest = same_cells old new (suc n) durable (λ s h. same s (omega arith)) in
    λ i. record { durable = value; written = here i } ∷ rest i

-- an entry's value, the older ones behind it and the durable one, in two groupings
regrouped : (newer older rest : List (List ℕ)) (value durable : List ℕ)
    → ((newer ++ value ∷ older) ++ durable ∷ []) ++ rest ≡ (newer ++ value ∷ []) ++ ((older ++ durable ∷ []) ++ rest)
regrouped newer older rest value durable = simp append_assoc

-- entries that give the values of one sector alone otherwise
module _ (sector : ℕ) (old new : List Entry) (others : (s : ℕ) → sector ≢ s → values_of s new ≡ values_of s old) where
  beyond : (n : ℕ) → sector < n → (durable : List (List ℕ)) (wholes : List Cell)
      → AreEndsOf (cells_from n old durable) wholes
      → AreEndsOf (cells_from n new durable) wholes
  beyond n past durable wholes ends =
      let same = same_cells old new n durable (λ s h. others s (omega arith)) in
      subst (λ cells. AreEndsOf cells wholes) (sym same) ends

  other_end : (n : ℕ) (value : List ℕ) (whole : Cell) → sector ≢ n
      → IsEndOf (record { durable = value; written = values_of n old }) whole
      → IsEndOf (record { durable = value; written = values_of n new }) whole
  other_end n value whole apart end = subst (λ written. IsEndOf (record { durable = value; written = written }) whole)
      (sym (others n apart)) end

  -- one of its values becomes durable, and the older ones go
  durable_ends : (value : List ℕ) (older : List (List ℕ)) → values_of sector old ≡ values_of sector new ++ value ∷ older
      → (i n : ℕ) (durable : List (List ℕ)) (wholes : List Cell) → sector ≡ n + i
      → AreEndsOf (cells_from n old durable) wholes
      → AreEndsOf (cells_from n new (slice_set durable i value)) wholes
  durable_ends value older between i n [] [] at ends = ends
  durable_ends value older between i n [] (whole ∷ wholes) at ends = absurd ends
  durable_ends value older between i n (v ∷ durable) [] at ends = absurd ends
  durable_ends value older between zero n (v ∷ durable) (whole ∷ wholes) at ends =
      let same : sector ≡ n = omega arith in
      let here = subst (λ s. values_of s old ≡ values_of s new ++ value ∷ older) same between in
      let rest = ends.0.0 in (
        (
          (older ++ v ∷ []) ++ rest,
          ends.0.1 ∙ ap (λ l. (l ++ v ∷ []) ++ rest) here
              ∙ regrouped (values_of n new) older rest value v,
        ),
        beyond (suc n) (omega arith) durable wholes ends.1,
      )
  durable_ends value older between (suc i) n (v ∷ durable) (whole ∷ wholes) at ends = (
    other_end n v whole (omega arith) ends.0,
    durable_ends value older between i (suc n) durable wholes
        (omega arith) ends.1,
  )

  -- a value is written
  written_ends : (value : List ℕ) → values_of sector new ≡ value ∷ values_of sector old
      → (i n : ℕ) (durable : List (List ℕ)) (wholes : List Cell) → sector ≡ n + i
      → AreEndsOf (cells_from n old durable) wholes
      → AreEndsOf (cells_from n new durable) (appended i value wholes)
  written_ends value leads i n [] [] at ends = ends
  written_ends value leads i n [] (whole ∷ wholes) at ends = absurd ends
  written_ends value leads i n (v ∷ durable) [] at ends = absurd ends
  written_ends value leads zero n (v ∷ durable) (whole ∷ wholes) at ends =
      let same : sector ≡ n = omega arith in
      let here = subst (λ s. values_of s new ≡ value ∷ values_of s old) same leads in (
        (ends.0.0, ap (λ l. value ∷ l) ends.0.1 ∙ ap (λ l. (l ++ v ∷ []) ++ ends.0.0) (sym here)),
        beyond (suc n) (omega arith) durable wholes ends.1,
      )
  written_ends value leads (suc i) n (v ∷ durable) (whole ∷ wholes) at ends =
      (other_end n v whole (omega arith) ends.0, written_ends value leads i (suc n) durable wholes (omega arith) ends.1)

-- entry k became durable, and was taken
taken_ends : (k : ℕ) (entries : List Entry) (e : Entry) (durable : List (List ℕ)) (wholes : List Cell)
    → slice_get entries k ≡ Some e
    → AreEndsOf (cells_from 0 entries durable) wholes
    → AreEndsOf (cells_from 0 (taken_at k entries) (made_durable e durable)) wholes
taken_ends k entries e durable wholes there ends =
    let own = taken_own k entries e there in
    let between = taken_between k entries e there ∙ ap (λ l. l ++ e.bytes ∷ values_of e.sector (take k entries))
    (sym own) in
    durable_ends e.sector entries (taken_at k entries) (λ s apart. taken_another k entries e s there apart)
    e.bytes (values_of e.sector (take k entries)) between e.sector 0 durable wholes (omega arith) ends

-- a destage
pub destaged_ends : (k : ℕ) (kept : Kept) (wholes : List Cell) → AreEndsOf (cells_of kept) wholes
    → AreEndsOf (cells_of (kept_destaged k kept)) wholes
destaged_ends k kept wholes ends = by_entry (slice_get kept.cache.entries k) refl
  where
    entries : List Entry
    entries = kept.cache.entries

    by_entry : (o : Option Entry) → slice_get entries k ≡ o
        → AreEndsOf (cells_from 0 (taken o k entries) (put_durable o kept.durable)) wholes
    by_entry None there = ends
    by_entry (Some e) there =
        subst (λ o. AreEndsOf (cells_from 0 (taken o k entries) (made_durable e kept.durable)) wholes) there
        (taken_ends k entries e kept.durable wholes there ends)

-- room is made for an entry
room_ends : (full : Bool) (entries : List Entry) (durable : List (List ℕ)) (wholes : List Cell)
    → AreEndsOf (cells_from 0 entries durable) wholes
    → AreEndsOf (cells_from 0 (if full then drop 1 entries else entries)
    (put_durable (if full then slice_get entries 0 else None) durable)) wholes
room_ends false entries durable wholes ends = ends
room_ends true [] durable wholes ends = ends
room_ends true (e ∷ entries) durable wholes ends = taken_ends 0 (e ∷ entries) e durable wholes refl ends

-- all entries become durable
all_ends : (entries : List Entry) (durable : List (List ℕ)) (wholes : List Cell)
    → AreEndsOf (cells_from 0 entries durable) wholes
    → AreEndsOf (cells_from 0 [] (all_durable entries durable)) wholes
all_ends [] durable wholes ends = ends
all_ends (e ∷ entries) durable wholes ends = all_ends entries (made_durable e durable) wholes
    (taken_ends 0 (e ∷ entries) e durable wholes refl ends)

-- durable values alone stay ends when the others go
flushed_ends : (n : ℕ) (durable : List (List ℕ)) (wholes : List Cell) → AreEndsOf (cells_from n [] durable) wholes
    → AreEndsOf (cells_from n [] durable) (all_flushed wholes)
flushed_ends n [] [] ends = ends
flushed_ends n [] (whole ∷ wholes) ends = absurd ends
flushed_ends n (value ∷ durable) [] ends = absurd ends
flushed_ends n (value ∷ durable) (whole ∷ wholes) ends =
    (([], ap (λ v. v ∷ []) (end-current (settled value) whole ends.0)), flushed_ends (suc n) durable wholes ends.1)

-- a change
pub changed_ends : (change : Change) (kept : Kept) (wholes : List Cell) → AreEndsOf (cells_of kept) wholes
    → AreEndsOf (cells_of (kept_after change kept)) (cells_after change wholes)
changed_ends leaves kept wholes ends = ends
changed_ends (writes s value) kept wholes ends =
    let c = kept.cache in let e = entry_of s value in
    written_ends s (entries_kept c) (entries_kept c ++ e ∷ [])
    (λ other apart. newest_another e (entries_kept c) other apart)
    value (newest_own e (entries_kept c)) s 0 (put_durable (put_out c) kept.durable) wholes (omega arith)
    (room_ends (is_full c) c.entries kept.durable wholes ends)
changed_ends flushes kept wholes ends =
    let durable = all_durable kept.cache.entries kept.durable in
    flushed_ends 0 durable wholes (all_ends kept.cache.entries kept.durable wholes ends)

-- without entries the cells are a store of the durable values
pub no_entries-stored : (n : ℕ) (durable : List (List ℕ)) → cells_from n [] durable ≡ stored durable
no_entries-stored n [] = refl
no_entries-stored n (value ∷ durable) = ap (λ cells. settled value ∷ cells) (no_entries-stored (suc n) durable)

-- a store is an end of itself
stored_ends : (durable : List (List ℕ)) → AreEndsOf (stored durable) (stored durable)
stored_ends [] = tt
stored_ends (value ∷ durable) = (([], refl), stored_ends durable)

-- durable values without entries are ends of a store of them
pub durable_alone_ends : (durable : List (List ℕ)) → AreEndsOf (cells_from 0 [] durable) (stored durable)
durable_alone_ends durable = subst (λ cells. AreEndsOf cells (stored durable)) (sym (no_entries-stored 0 durable))
    (stored_ends durable)

-- the durable values are an outcome
pub ends-outcome : (n : ℕ) (entries : List Entry) (durable : List (List ℕ)) (wholes : List Cell)
    → AreEndsOf (cells_from n entries durable) wholes
    → IsOutcome wholes durable
ends-outcome n entries [] [] ends = tt
ends-outcome n entries [] (whole ∷ wholes) ends = absurd ends
ends-outcome n entries (value ∷ durable) [] ends = absurd ends
ends-outcome n entries (value ∷ durable) (whole ∷ wholes) ends =
    let one : Contains ((values_of n entries ++ value ∷ []) ++ ends.0.0) value
    = Contains-append_left (values_of n entries ++ value ∷ []) ends.0.0 value
    (Contains-push (values_of n entries) value) in
    (subst (λ l. Contains l value) (sym ends.0.1) one, ends-outcome (suc n) entries durable wholes ends.1)
