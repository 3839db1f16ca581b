-- What a write cache holds, and what each call does to it.
use Rattle.std.specs.Prelude.{ℕ, ◌≡◌, Bool, not, ◌==◌, ◌+◌, List, [], ◌∷◌, ◌++◌, length, take, drop, map, filter, find, reverse, slice_get, Option, Some, None, if◌then◌else◌}
use Rattle.write_cache.specs.declared.entry.Entry.{Entry}

-- the entries in order of writing, the oldest first, and how many of them there may be (own)
pub record Cached : Type 0 where
  pub entries : List Entry
  pub room : ℕ

-- these bytes, written to a sector
abbrev pub entry_of : ℕ → List ℕ → Entry
entry_of sector bytes = record { sector = sector; bytes = bytes }

-- the same room with these entries
abbrev pub holding : List Entry → Cached → Cached
holding entries c = record c { entries = entries }

-- whether the entries fill the room
abbrev pub is_full : Cached → Bool
is_full c = length c.entries == c.room

-- the entries that stay where one is written: all, or all but the oldest where they fill the room
abbrev pub entries_kept : Cached → List Entry
entries_kept c = if is_full c then drop 1 c.entries else c.entries

-- an entry is written: it stands behind those that stay (own)
abbrev pub written : Entry → Cached → Cached
written entry c = holding (entries_kept c ++ entry ∷ []) c

-- the entry that a written one puts out: the oldest where they fill the room, else none (own)
abbrev pub put_out : Cached → Option Entry
put_out c = if is_full c then slice_get c.entries 0 else None

-- whether an entry is of a sector
abbrev pub is_of : ℕ → Entry → Bool
is_of sector entry = entry.sector == sector

-- the entries of a sector, the oldest first
abbrev pub entries_of : ℕ → List Entry → List Entry
entries_of sector entries = filter (is_of sector) entries

-- the entries of all other sectors, the oldest first
abbrev pub entries_but : ℕ → List Entry → List Entry
entries_but sector entries = filter (λ entry. not (is_of sector entry)) entries

-- the values that a sector's entries give it, the newest first
abbrev pub values_of : ℕ → List Entry → List (List ℕ)
values_of sector entries = reverse (map (λ entry. entry.bytes) (entries_of sector entries))

-- the newest entry of a sector: the first that is of it, from the newest back
abbrev pub newest_of : ℕ → List Entry → Option Entry
newest_of sector entries = find (is_of sector) (reverse entries)

-- an entry stands at place k, the oldest at place 0
abbrev pub IsAt : ℕ → List Entry → Entry → Type 0
IsAt k entries entry = slice_get entries k ≡ Some entry

-- what stays where this entry at place k is taken: of those before it the ones of other sectors, and all behind it;
-- where there is none, all stay (own)
abbrev pub taken : Option Entry → ℕ → List Entry → List Entry
taken None k entries = entries
taken (Some entry) k entries = entries_but entry.sector (take k entries) ++ drop (k + 1) entries

-- what stays where entry k is taken
abbrev pub taken_at : ℕ → List Entry → List Entry
taken_at k entries = taken (slice_get entries k) k entries
