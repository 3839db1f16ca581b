-- What holds of every value that a drive keeps, by its sector.
use Rattle.std.proofs.Common.{◌≡◌, ℕ, ◌+◌, ◌<◌, Bool, true, false, List, [], ◌∷◌, ◌++◌, length, get_or, set, take, drop, Option, Some, None, refl, sym, ◌∙◌, subst, arith, inl, inr, get_or-set_same, get_or-set_other, length-set}
use Rattle.std.specs.Prelude.{if◌then◌else◌, not, All, slice_get, slice_index_or}
use Rattle.std.proofs.lemmas.Bool.{cases_eq}
use Rattle.std.proofs.lemmas.Option.{get_or_from_slice_get, slice_get_within}
use Rattle.std.proofs.lemmas.List.Elements.{All-nil, All-head, All-tail, All-append, All-push, All-take, All-drop, All-filter}
use Rattle.write_cache.specs.declared.entry.Entry.{Entry}
use Rattle.write_cache.specs.Cache.{entry_of, entries_but, is_full, is_of, put_out, taken, values_of}
use Rattle.write_cache.proofs.Values.{oldest_own, oldest_another}
use Rattle.plain_drive.proofs.Cells.{cells_from-at}
use Rattle.plain_drive.specs.Plain.{current, settled}
use Rattle.plain_drive.specs.Change.{Change, leaves, writes, flushes}
use Rattle.plain_drive.specs.Physical.{Kept, cells_from, made_durable, put_durable, all_durable, kept_after, kept_destaged, kept_cut}

-- it holds of each entry, and of each durable value
pub record Holds (Q : ℕ → List ℕ → Type 0) (k : Kept) : Type 0 where
  pub entries : All (λ (e : Entry). Q e.sector e.bytes) k.cache.entries
  pub durable : (s : ℕ) → s < length k.durable → Q s (get_or k.durable s [])

-- and of what a change writes
abbrev pub Writes : (ℕ → List ℕ → Type 0) → Change → Type 0
Writes Q leaves = Unit {0}
Writes Q (writes s value) = Q s value
Writes Q flushes = Unit {0}

-- no change makes or takes a sector
put_length : (o : Option Entry) (durable : List (List ℕ)) → length (put_durable o durable) ≡ length durable
put_length None durable = refl
put_length (Some e) durable = length-set durable e.sector e.bytes

all_length : (entries : List Entry) (durable : List (List ℕ)) → length (all_durable entries durable) ≡ length durable
all_length [] durable = refl
all_length (e ∷ entries) durable = all_length entries (made_durable e durable) ∙ length-set durable e.sector e.bytes

pub after_length : (change : Change) (k : Kept) → length (kept_after change k).durable ≡ length k.durable
after_length leaves k = refl
after_length (writes s value) k = put_length (put_out k.cache) k.durable
after_length flushes k = all_length k.cache.entries k.durable

pub destaged_length : (n : ℕ) (k : Kept) → length (kept_destaged n k).durable ≡ length k.durable
destaged_length n k = put_length (slice_get k.cache.entries n) k.durable

module _ (Q : ℕ → List ℕ → Type 0) where
  -- of durable values
  abbrev AllHold : List (List ℕ) → Type 0
  AllHold durable = (s : ℕ) → s < length durable → Q s (get_or durable s [])

  -- of entries
  abbrev AllEntries : List Entry → Type 0
  AllEntries entries = All (λ (e : Entry). Q e.sector e.bytes) entries

  -- one entry becomes durable
  made_holds : (e : Entry) (durable : List (List ℕ)) → Q e.sector e.bytes → AllHold durable
      → AllHold (made_durable e durable)
  made_holds e durable one all s below =
      let within : s < length durable = omega (arith, length-set durable e.sector e.bytes) in
      elim (cases_eq s e.sector) [
        | inl same ↦
            let fits : e.sector < length durable = omega arith in
            subst (λ i. Q i (get_or (set durable e.sector e.bytes) i [])) (sym same)
            (subst (Q e.sector) (sym (get_or-set_same durable e.sector e.bytes [] fits)) one)
        | inr apart ↦ subst (Q s) (sym (get_or-set_other durable e.sector s e.bytes [] apart)) (all s within)
      ]

  entry_at : (n : ℕ) (entries : List Entry) (e : Entry) → slice_get entries n ≡ Some e → AllEntries entries
      → Q e.sector e.bytes
  entry_at n entries e there all =
      subst (λ (x : Entry). Q x.sector x.bytes) (get_or_from_slice_get entries n e e there)
      (all n e (slice_get_within entries n e there))

  put_holds : (o : Option Entry) (n : ℕ) (entries : List Entry) (durable : List (List ℕ)) → slice_get entries n ≡ o
      → AllEntries entries
      → AllHold durable → AllHold (put_durable o durable)
  put_holds None n entries durable there all holds = holds
  put_holds (Some e) n entries durable there all holds = made_holds e durable (entry_at n entries e there all) holds

  -- all entries do
  all_holds : (entries : List Entry) (durable : List (List ℕ)) → AllEntries entries → AllHold durable
      → AllHold (all_durable entries durable)
  all_holds [] durable all holds = holds
  all_holds (e ∷ entries) durable all holds =
      all_holds entries (made_durable e durable) (All-tail (λ (x : Entry). Q x.sector x.bytes) e entries all)
      (made_holds e durable (All-head (λ (x : Entry). Q x.sector x.bytes) e entries all) holds)

  -- what stays of the entries
  taken_holds : (o : Option Entry) (n : ℕ) (entries : List Entry) → AllEntries entries → AllEntries (taken o n entries)
  taken_holds None n entries all = all
  taken_holds (Some e) n entries all =
      All-append (λ (x : Entry). Q x.sector x.bytes) (entries_but e.sector (take n entries)) (drop (n + 1) entries)
      (All-filter (λ x. not (is_of e.sector x)) (λ (x : Entry). Q x.sector x.bytes) (take n entries)
      (All-take (λ (x : Entry). Q x.sector x.bytes) n entries all))
      (All-drop (λ (x : Entry). Q x.sector x.bytes) (n + 1) entries all)

  -- room is made for an entry
  room_holds : (full : Bool) (entries : List Entry) (durable : List (List ℕ)) (e : Entry) (room : ℕ)
      → AllEntries entries
      → AllHold durable → Q e.sector e.bytes
      → Holds Q (record {
        durable = put_durable (if full then slice_get entries 0 else None) durable;
        cache = record { entries = (if full then drop 1 entries else entries) ++ e ∷ []; room = room };
      })
  room_holds false entries durable e room all holds one =
      record { entries = All-push (λ (x : Entry). Q x.sector x.bytes) entries e all one; durable = holds }
  room_holds true entries durable e room all holds one = record {
    entries = All-push (λ (x : Entry). Q x.sector x.bytes) (drop 1 entries) e
        (All-drop (λ (x : Entry). Q x.sector x.bytes) 1 entries all) one;
    durable = put_holds (slice_get entries 0) 0 entries durable refl all holds;
  }

  -- so it holds after a change that writes such a value
  pub after_holds : (change : Change) (k : Kept) → Writes Q change → Holds Q k → Holds Q (kept_after change k)
  after_holds leaves k one holds = holds
  after_holds (writes s value) k one holds =
      room_holds (is_full k.cache) k.cache.entries k.durable (entry_of s value) k.cache.room holds.entries
      holds.durable one
  after_holds flushes k one holds = record {
    entries = All-nil (λ (x : Entry). Q x.sector x.bytes);
    durable = all_holds k.cache.entries k.durable holds.entries holds.durable;
  }

  -- after a destage
  pub destaged_holds : (n : ℕ) (k : Kept) → Holds Q k → Holds Q (kept_destaged n k)
  destaged_holds n k holds = record {
    entries = taken_holds (slice_get k.cache.entries n) n k.cache.entries holds.entries;
    durable = put_holds (slice_get k.cache.entries n) n k.cache.entries k.durable refl holds.entries holds.durable;
  }

  -- and after a cut
  pub cut_holds : (k : Kept) → Holds Q k → Holds Q (kept_cut k)
  cut_holds k holds = record { entries = All-nil (λ (x : Entry). Q x.sector x.bytes); durable = holds.durable }

  -- it holds of each value that a sector's entries give it
  values_hold : (s : ℕ) (entries : List Entry) → AllEntries entries → All (Q s) (values_of s entries)
  values_hold s [] all = All-nil (Q s)
  values_hold s (e ∷ entries) all =
      let rest = values_hold s entries (All-tail (λ (x : Entry). Q x.sector x.bytes) e entries all) in
      let first = All-head (λ (x : Entry). Q x.sector x.bytes) e entries all in
      elim (cases_eq e.sector s) [
        | inl same ↦
            let values : values_of s (e ∷ entries) ≡ values_of s entries ++ e.bytes ∷ []
            = subst (λ i. values_of i (e ∷ entries) ≡ values_of i entries ++ e.bytes ∷ []) same
            (oldest_own e entries) in
            subst (All (Q s)) (sym values) (All-push (Q s) (values_of s entries) e.bytes rest
            (subst (λ i. Q i e.bytes) same first))
        | inr apart ↦ subst (All (Q s)) (sym (oldest_another e entries s apart)) rest
      ]

  -- and so of the current one
  first_holds : (s : ℕ) (written : List (List ℕ)) (value : List ℕ) → All (Q s) written → Q s value
      → Q s (slice_index_or written 0 value)
  first_holds s [] value all one = one
  first_holds s (newest ∷ written) value all one = All-head (Q s) newest written all

  pub current_holds : (s : ℕ) (k : Kept) → s < length k.durable → Holds Q k
      → Q s (current (slice_index_or (cells_from 0 k.cache.entries k.durable) s (settled [])))
  current_holds s k below holds =
      subst (λ cell. Q s (current cell)) (sym (cells_from-at 0 s s k.cache.entries k.durable (omega arith) below))
      (first_holds s (values_of s k.cache.entries) (get_or k.durable s []) (values_hold s k.cache.entries holds.entries)
      (holds.durable s below))
