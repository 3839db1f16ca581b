-- A machine after an access to its drive.
use Rattle.std.proofs.Common.{◌≡◌, ◌≤◌, ◌^◌, ℕ, List, length, ap, ◌∙◌, arith}
use Rattle.std.specs.Prelude.{slice_set}
use Rattle.std.proofs.lemmas.List.{get_or_past, set_past}
use Rattle.ata_taskfile.specs.Device.{Device}
use Rattle.bm_dma.specs.Memory.{byte_at}
use Rattle.drive_store.specs.declared.memory_store.MemoryStore.{MemoryStore}
use Rattle.drive_store.specs.MemoryStore.{sectors_of}
use Rattle.plain_drive.specs.Plain.{plain}
use Rattle.plain_drive.specs.Physical.{Kept, keeping}
use Rattle.drive_model.specs.CachedStore.{list_told}
use Rattle.drive_model.specs.Drive.{Behind, behind}
use Rattle.world.specs.declared.machine.Machine.{Machine}
use Rattle.world.specs.Machine.{device, physical, with_device}

-- what stands behind the registers is what the drive keeps
abbrev pub kept_behind : Behind MemoryStore → Kept
kept_behind b = record { durable = list_told (sectors_of b.store).told; cache = b.cache }

-- the drive has another device, and nothing else changed
pub moved : (old new : Machine) (d : Device) → device new ≡ d → (physical new).kept ≡ (physical old).kept
    → new.memory ≡ old.memory
    → physical new ≡ with_device d (physical old)
moved old new d is kept memory = ap (λ k. keeping k (plain (device new) new.memory)) kept
    ∙ ap (λ e. keeping (physical old).kept (plain e new.memory)) is
    ∙ ap (λ m. keeping (physical old).kept (plain d m)) memory

pub reached : (old new : Machine) (d : Device) → device new ≡ d → behind new.drive ≡ behind old.drive
    → new.memory ≡ old.memory
    → physical new ≡ with_device d (physical old)
reached old new d is rest memory = moved old new d is (ap kept_behind rest) memory

-- no byte of memory has a place that no address names
pub outside : (memory : List ℕ) (place : ℕ) → length memory ≤ 16777216 → 2 ^ 32 ≤ place → byte_at memory place ≡ 255
outside memory place few beyond = get_or_past memory place 255 (omega arith)

pub outside_set : (memory : List ℕ) (place v : ℕ) → length memory ≤ 16777216 → 2 ^ 32 ≤ place
    → slice_set memory place v ≡ memory
outside_set memory place v few beyond = set_past memory place v (omega arith)
