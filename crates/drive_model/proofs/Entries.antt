-- Entries of existing sectors, and of whole ones.
use Rattle.std.proofs.Common.{◌≡◌, ◌<◌, ℕ, ◌+◌, not, Bool, true, false, if◌then◌else◌, All, List, [], ◌∷◌, ◌++◌, take, drop, slice_get, Option, Some, None, subst}
use Rattle.std.proofs.lemmas.List.Elements.{All-append, All-take, All-drop, All-filter, All-push}
use Rattle.std.proofs.lemmas.Option.{slice_get_within, get_or_from_slice_get}
use Rattle.ata_taskfile.specs.Sectors.{IsSector}
use Rattle.write_cache.specs.declared.entry.Entry.{Entry}
use Rattle.write_cache.specs.Cache.{Cached, is_full, is_of, taken, taken_at, entries_but, written}
use Rattle.drive_model.specs.Entries.{AreSectors, AreWithin}

-- what holds of each entry holds of each that stays where one is taken
taken_all : (P : Entry → Type 0) (k : ℕ) (entries : List Entry) (o : Option Entry) → All P entries
    → All P (taken o k entries)
taken_all P k entries None all = all
taken_all P k entries (Some e) all =
    All-append P (entries_but e.sector (take k entries)) (drop (k + 1) entries)
    (All-filter (λ (x : Entry). not (is_of e.sector x)) P (take k entries) (All-take P k entries all))
    (All-drop P (k + 1) entries all)

pub taken_at_within : (count k : ℕ) (entries : List Entry) → AreWithin count entries
    → AreWithin count (taken_at k entries)
taken_at_within count k entries within =
    taken_all (λ entry. entry.sector < count) k entries (slice_get entries k) within

pub taken_at_whole : (k : ℕ) (entries : List Entry) → AreSectors entries → AreSectors (taken_at k entries)
taken_at_whole k entries whole = taken_all (λ entry. IsSector entry.bytes) k entries (slice_get entries k) whole

-- what holds of each entry, and of one that is written, holds of each entry then
written_all : (P : Entry → Type 0) (full : Bool) (entries : List Entry) (entry : Entry) → P entry → All P entries
    → All P ((if full then drop 1 entries else entries) ++ entry ∷ [])
written_all P true entries entry here all = All-push P (drop 1 entries) entry (All-drop P 1 entries all) here
written_all P false entries entry here all = All-push P entries entry all here

pub written_within : (count : ℕ) (entry : Entry) (c : Cached) → entry.sector < count → AreWithin count c.entries
    → AreWithin count (written entry c).entries
written_within count entry c here within =
    written_all (λ entry. entry.sector < count) (is_full c) c.entries entry here within

pub written_whole : (entry : Entry) (c : Cached) → IsSector entry.bytes → AreSectors c.entries
    → AreSectors (written entry c).entries
written_whole entry c here whole = written_all (λ entry. IsSector entry.bytes) (is_full c) c.entries entry here whole

-- each entry is of an existing sector
pub entry_within : (count k : ℕ) (entries : List Entry) (entry : Entry) → slice_get entries k ≡ Some entry
    → AreWithin count entries → entry.sector < count
entry_within count k entries entry there within =
    let P : Entry → Type 0 = λ entry. entry.sector < count in
    subst P (get_or_from_slice_get entries k entry entry there)
    (within k entry (slice_get_within entries k entry there))
