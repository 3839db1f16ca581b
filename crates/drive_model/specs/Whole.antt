-- The cells of a drive hold values of sectors: what the law of `Ports` is proved by.
use Rattle.std.specs.Prelude.{ℕ, suc, List, [], ◌∷◌, map, reverse, Option, Some, None, All, IfSome}
use Rattle.std.proofs.Common.{subst, sym}
use Rattle.std.proofs.lemmas.Grind.{reverse_onto}
use Rattle.std.proofs.lemmas.List.Elements.{All-cons, All-filter, All-head, All-map, All-nil, All-push, All-tail}
use Rattle.ata_taskfile.specs.Sectors.{HoldsSector, IsSector}
use Rattle.write_cache.specs.declared.entry.Entry.{Entry}
use Rattle.write_cache.specs.Cache.{entries_of, is_of, values_of}
use Rattle.drive_store.specs.Store.{IsListOf}
use Rattle.plain_drive.specs.Physical.{cells_from}
use Rattle.drive_model.specs.CachedStore.{list_told}
use Rattle.drive_model.specs.Entries.{AreSectors}

all_reversed : {X : Type 0} (P : X → Type 0) (xs : List X) → All P xs → All P (reverse xs)
all_reversed P [] all = all
all_reversed P (x ∷ xs) all = subst (All P) (sym (reverse_onto xs x []))
    (All-push P (reverse xs) x (all_reversed P xs (All-tail P x xs all)) (All-head P x xs all))

-- the values that entries of sectors give a sector are a sector's
values_whole : (sector : ℕ) (entries : List Entry) → AreSectors entries
    → All IsSector (values_of sector entries)
values_whole sector entries whole =
    let bytes : Entry → List ℕ = λ entry. entry.bytes in
    all_reversed IsSector (map bytes (entries_of sector entries))
    (All-map IsSector bytes (entries_of sector entries)
    (All-filter (is_of sector) (λ entry. IsSector entry.bytes) entries whole))

cells_whole : (sector : ℕ) (entries : List Entry) (durable : List (List ℕ)) → AreSectors entries
    → All IsSector durable → All HoldsSector (cells_from sector entries durable)
cells_whole sector entries [] whole all = All-nil HoldsSector
cells_whole sector entries (value ∷ durable) whole all =
    All-cons HoldsSector _ (cells_from (suc sector) entries durable)
    (record {
      durable = All-head IsSector value durable all;
      written = values_whole sector entries whole;
    })
    (cells_whole (suc sector) entries durable whole (All-tail IsSector value durable all))

-- a store that doesn't tell its sectors has no cells
pub cells_hold : (entries : List Entry) (count : ℕ) (told : Option (List (List ℕ)))
    → AreSectors entries → IfSome told (λ list. IsListOf count list)
    → All HoldsSector (cells_from 0 entries (list_told told))
cells_hold entries count None whole all = All-nil HoldsSector
cells_hold entries count (Some list) whole all = cells_whole 0 entries list whole all.values
