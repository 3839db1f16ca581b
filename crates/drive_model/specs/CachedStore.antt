-- What a store behind a write cache keeps.
use Rattle.std.specs.Prelude.{ℕ, ◌≡◌, List, [], slice_index_or, Option, Some, None, Result, ⊤}
use Rattle.ata_taskfile.specs.Device.{Device, powered_on}
use Rattle.drive_store.specs.Store.{Counted}
use Rattle.drive_store.specs.declared.store.Store.{Ghosts}
use Rattle.plain_drive.specs.Plain.{settled, current}
use Rattle.plain_drive.specs.Physical.{Kept, cells_of, all_durable}
use Rattle.drive_model.specs.declared.cached_store.CachedStore.{CachedStore}

-- the sectors of a store where they are told; else none
abbrev pub list_told : Option (List (List ℕ)) → List (List ℕ)
list_told None = []
list_told (Some list) = list

-- what a store behind a cache keeps: the sectors that the store tells, and the entries of the cache
abbrev pub kept_of : {S : Type 0} {T : Ghosts S} → CachedStore S T → Kept
kept_of {S} {T} c = record { durable = list_told (T.sectors c.store).told; cache = c.cache }

-- the current value of a sector
abbrev pub value_kept : ℕ → Kept → List ℕ
value_kept sector k = current (slice_index_or (cells_of k) sector (settled []))

-- the sectors, once all entries are durable
abbrev pub all_stored : Kept → List (List ℕ)
all_stored k = all_durable k.cache.entries k.durable

-- a device with the sectors of such a store, whose registers don't matter
abbrev pub device_over : {S : Type 0} {T : Ghosts S} → CachedStore S T → Device
device_over {S} {T} c = powered_on (cells_of (kept_of c)) (T.sectors c.store).count

-- calls to the store behind a cache that ended so: a failure has its cause, and neither the rest of the store nor
-- the number of sectors has changed
pub record CallsStore {S : Type 0} {T : Ghosts S} {R E : Type 0}
    (old new : CachedStore S T) (result : Result R E) : Type 0 where
  pub cause : Counted (T.faults old.store) (T.faults new.store) result
  pub rest : T.rest new.store ≡ T.rest old.store
  pub count : (T.sectors new.store).count ≡ (T.sectors old.store).count

-- this holds where sectors are told before and after; sectors that aren't told stay so
abbrev pub IfBothTold : Type 0 → Option (List (List ℕ)) → Option (List (List ℕ)) → Type 0
IfBothTold P None None = ⊤
IfBothTold P None (Some new) = ⊥
IfBothTold P (Some old) None = ⊤
IfBothTold P (Some old) (Some new) = P

-- this holds where a store tells its sectors before and after; one that doesn't never begins to
abbrev pub IfStoreTold : {S : Type 0} {T : Ghosts S} → CachedStore S T → CachedStore S T
    → Type 0 → Type 0
IfStoreTold {S} {T} old new P =
    IfBothTold P (T.sectors old.store).told (T.sectors new.store).told
