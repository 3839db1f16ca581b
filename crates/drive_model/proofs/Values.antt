-- The current value of a sector.
use Rattle.std.proofs.Common.{◌≡◌, ◌<◌, ℕ, List, [], ◌∷◌, length, slice_index_or, slice_get, Option, Some, None, true, refl, sym, ap, ◌∙◌, arith}
use Rattle.std.specs.Prelude.{IfSome, is_some}
use Rattle.std.specs.Option.{option_map}
use Rattle.write_cache.specs.declared.entry.Entry.{Entry}
use Rattle.write_cache.specs.Cache.{Cached, newest_of, values_of}
use Rattle.write_cache.proofs.Values.{newest_leads}
use Rattle.std.proofs.lemmas.Option.{get_or_from_slice_get}
use Rattle.plain_drive.specs.Plain.{current}
use Rattle.plain_drive.specs.Physical.{Kept}
use Rattle.plain_drive.proofs.Cells.{cells_from-at}
use Rattle.drive_model.specs.CachedStore.{value_kept, list_told}

-- the current value of a sector is that of its newest entry, or the durable one
value_is : (s : ℕ) (k : Kept) → s < length k.durable
    → value_kept s k ≡ slice_index_or (values_of s k.cache.entries) 0 (slice_index_or k.durable s [])
value_is s k below = ap current (cells_from-at 0 s s k.cache.entries k.durable (omega arith) below)

-- the value of a newest entry
pub value_newest : (s : ℕ) (k : Kept) (bytes : List ℕ) → s < length k.durable
    → option_map (λ (e : Entry). e.bytes) (newest_of s k.cache.entries) ≡ Some bytes → bytes ≡ value_kept s k
value_newest s k bytes below there =
    let first = sym (newest_leads s k.cache.entries) ∙ there in
    sym (value_is s k below ∙ get_or_from_slice_get (values_of s k.cache.entries) 0 bytes
    (slice_index_or k.durable s []) first)

-- without values the durable one is the first
first_or_none : (values : List (List ℕ)) (value : List ℕ) → slice_get values 0 ≡ None
    → slice_index_or values 0 value ≡ value
first_or_none [] value none = refl
first_or_none (x ∷ values) value none = absurd cc

-- the durable value where there is no entry
pub value_durable : (s : ℕ) (k : Kept) (bytes : List ℕ) → s < length k.durable
    → option_map (λ (e : Entry). e.bytes) (newest_of s k.cache.entries) ≡ None → slice_get k.durable s ≡ Some bytes
    → bytes ≡ value_kept s k
value_durable s k bytes below none there =
    let first = sym (newest_leads s k.cache.entries) ∙ none in
    sym (value_is s k below ∙ first_or_none (values_of s k.cache.entries) (slice_index_or k.durable s []) first
    ∙ get_or_from_slice_get k.durable s bytes [] there)

-- the same of a list that is told
pub value_fetched : (s : ℕ) (told : Option (List (List ℕ))) (cache : Cached) (bytes : List ℕ)
    → s < length (list_told told)
    → option_map (λ (e : Entry). e.bytes) (newest_of s cache.entries) ≡ None
    → IfSome told (λ list. slice_get list s ≡ Some bytes)
    → is_some told ≡ true → bytes ≡ value_kept s (record { durable = list_told told; cache = cache })
value_fetched s None cache bytes below none there is = absurd cc
value_fetched s (Some list) cache bytes below none there is = value_durable s
    (record { durable = list; cache = cache }) bytes below none there
