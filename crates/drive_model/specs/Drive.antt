-- What a drive means.
use Rattle.std.specs.Prelude.{ℕ, List, []}
use Rattle.ata_taskfile.specs.Device.{Device}
use Rattle.drive_store.specs.declared.store.Store.{Ghosts}
use Rattle.write_cache.specs.Cache.{Cached}
use Rattle.plain_drive.specs.Plain.{Plain}
use Rattle.plain_drive.specs.Change.{Change}
use Rattle.plain_drive.specs.Physical.{Physical, seen, keeping, kept_after}
use Rattle.drive_model.specs.Block.{block_of}
use Rattle.drive_model.specs.CachedStore.{IfStoreTold, kept_of}
use Rattle.drive_model.specs.declared.drive.Drive.{Drive}

-- the store of a drive
abbrev pub store_of : {S : Type 0} {T : Ghosts S} → Drive S T → S
store_of {S} {T} d = d.sectors.store

-- how often a call to a drive's store failed
abbrev pub faults_of : {S : Type 0} {T : Ghosts S} → Drive S T → ℕ
faults_of {S} {T} d = T.faults d.sectors.store

-- what no call to a drive's store changes
abbrev pub rest_of : {S : Type 0} {T : Ghosts S} → Drive S T → T.Rest
rest_of {S} {T} d = T.rest d.sectors.store

-- how many sectors a drive's store has
abbrev pub count_of : {S : Type 0} {T : Ghosts S} → Drive S T → ℕ
count_of {S} {T} d = (T.sectors d.sectors.store).count

-- the physical drive that a drive is, beside such a memory of the guest
abbrev pub physical_of : {S : Type 0} {T : Ghosts S} → Drive S T → List ℕ → Physical
physical_of {S} {T} d memory = record {
  file = d.file;
  bus = d.bus;
  block = block_of d.block d.words;
  sectors = (T.sectors d.sectors.store).count;
  memory = memory;
  kept = kept_of d.sectors;
}

-- the device that a drive's guest reaches
abbrev pub device_of : {S : Type 0} {T : Ghosts S} → Drive S T → Device
device_of {S} {T} d = (seen (physical_of d [])).device

-- this holds where a drive's store tells its sectors before and after; one that doesn't never begins to
abbrev pub IfTold : {S : Type 0} {T : Ghosts S} → Drive S T → Drive S T → Type 0 → Type 0
IfTold {S} {T} old new P = IfStoreTold old.sectors new.sectors P

-- the drive after work that changes what the guest sees in this way, and the sectors in that
abbrev pub worked : Change → (Plain → Plain) → Physical → Physical
worked change work p = keeping (kept_after change p.kept) (work (seen p))

-- what stands behind the registers of a drive: the entries of its cache, and its store
pub record Behind (S : Type 0) : Type 0 where
  pub cache : Cached
  pub store : S

-- what stands behind the registers of this drive
abbrev pub behind : {S : Type 0} {T : Ghosts S} → Drive S T → Behind S
behind {S} {T} d = record { cache = d.sectors.cache; store = d.sectors.store }
