-- What every event of a physical drive keeps of the values that the drive keeps.
use Rattle.std.proofs.Common.{◌≡◌, ℕ, ◌<◌, List, [], ◌∷◌, length, get_or, refl, sym, ap, ◌∙◌, subst, arith}
use Rattle.std.proofs.lemmas.List.Elements.{All-nil}
use Rattle.ata_taskfile.specs.declared.Access.{Access}
use Rattle.ata_taskfile.specs.Access.{accessed}
use Rattle.ata_taskfile.specs.Accesses.{Reaches, all_accessed}
use Rattle.ata_taskfile.specs.Device.{Cell, Device, powered_on}
use Rattle.ata_taskfile.specs.Lawful.{IsLawful}
use Rattle.ata_taskfile.proofs.Lawfulness.{accessed-lawful}
use Rattle.plain_drive.specs.Laws.{HasWholeSectors}
use Rattle.plain_drive.specs.Change.{Change, leaves, writes, flushes, change_made}
use Rattle.plain_drive.specs.Physical.{Kept, Physical, seen, keeping, cells_of, kept_cut, fresh, physical_at_power_on}
use Rattle.plain_drive.proofs.KeepsLawful.{step_made-lawful}
use Rattle.schedule_text.specs.declared.Event.{Event}
use Rattle.schedule_text.specs.declared.Event.TheVariants as event
use Rattle.plain_run.specs.Guest.{accesses_of, with_device}
use Rattle.plain_run.specs.Run.{physical_event}
use Rattle.plain_run.proofs.Kept.{Holds, Writes, after_holds, cut_holds, current_holds, destaged_holds}
use Rattle.plain_run.proofs.Written.{IsAimed, step_aimed}
use Rattle.plain_run.proofs.Sectors.{accesses_sectors, event_sectors, event_length}

-- a change that writes such a value writes such a weaker one
writes_weaker : (P Q : ℕ → List ℕ → Type 0) → ((s : ℕ) (value : List ℕ) → P s value → Q s value) → (change : Change)
    → Writes P change → Writes Q change
writes_weaker P Q weaker leaves one = tt
writes_weaker P Q weaker (writes s value) one = weaker s value one
writes_weaker P Q weaker flushes one = tt

-- a lawful drive with a sector for each that it says it has, whose values are such
pub record IsSound (Q : ℕ → List ℕ → Type 0) (q : Physical) : Type 0 where
  pub lawful : IsLawful (seen q).device
  pub count : q.sectors ≡ length q.kept.durable
  pub kept : Holds Q q.kept

-- a device at power-on is lawful
power_lawful : (cells : List Cell) (sectors : ℕ) → IsLawful (powered_on cells sectors)
power_lawful cells sectors = grind arith

-- and so is one after accesses
accesses_lawful : (accesses : List Access) (d : Device) → IsLawful d → IsLawful (all_accessed accesses d)
accesses_lawful [] d l = l
accesses_lawful (a ∷ accesses) d l = accesses_lawful accesses (accessed a d) (accessed-lawful a d l)

module _ (Q : ℕ → List ℕ → Type 0) (whole : (s : ℕ) (value : List ℕ) → Q s value → length value ≡ 512) where
  -- its sectors are whole
  sound_whole : (q : Physical) → IsSound Q q → HasWholeSectors (seen q).device
  sound_whole q sound s below = whole s _ (current_holds Q s q.kept (rw (← sound.count) below) sound.kept)

  -- a guest's accesses keep the cells
  seen_lawful : (d : Device) (q : Physical) → d.cells ≡ cells_of q.kept → IsLawful d
      → IsLawful (seen (keeping q.kept (with_device d (seen q)))).device
  seen_lawful d q same l = subst (λ cells. IsLawful (record d { cells = cells })) same l

  event_lawful : (one : Event) (q : Physical) → IsSound Q q → IsLawful (seen (physical_event one q)).device
  event_lawful (event.Drive s) q sound = step_made-lawful s (seen q) (sound_whole q sound) sound.lawful
  event_lawful event.Cut q sound = power_lawful (cells_of (kept_cut q.kept)) q.sectors
  event_lawful (event.Destage k) q sound = sound.lawful
  event_lawful (event.WriteMemory address bytes) q sound = sound.lawful
  event_lawful one q sound = accesses_lawful (accesses_of one) (seen q).device sound.lawful

  event_holds : (one : Event) (q : Physical) → ((s : ℕ) (value : List ℕ) → IsAimed q.file.phase s value → Q s value)
      → IsSound Q q
      → Holds Q (physical_event one q).kept
  event_holds (event.Drive s) q aimed sound =
      after_holds Q (change_made s (seen q)) q.kept
      (writes_weaker (IsAimed q.file.phase) Q aimed (change_made s (seen q)) (step_aimed s (seen q) sound.lawful))
      sound.kept
  event_holds (event.Destage k) q aimed sound = destaged_holds Q k q.kept sound.kept
  event_holds event.Cut q aimed sound = cut_holds Q q.kept sound.kept
  event_holds one q aimed sound = sound.kept

  -- an event keeps it, where such a value is what a step may write then
  pub event_sound : (one : Event) (q : Physical) → ((s : ℕ) (value : List ℕ) → IsAimed q.file.phase s value
      → Q s value) → IsSound Q q
      → IsSound Q (physical_event one q)
  event_sound one q aimed sound = record {
    lawful = event_lawful one q sound;
    count = event_sectors one q ∙ sound.count ∙ sym (event_length one q);
    kept = event_holds one q aimed sound;
  }

-- accesses that reach no sector keep it
pub reached_sound : (Q : ℕ → List ℕ → Type 0) (q new : Physical) → Reaches (seen q).device (seen new).device
    → new.kept ≡ q.kept → IsSound Q q → IsSound Q new
reached_sound Q q new reached kept sound =
    let said : new.sectors ≡ q.sectors = ap (λ (d : Device). d.sectors) reached.leads
    ∙ accesses_sectors reached.accesses (seen q).device in
    record {
      lawful = subst IsLawful (sym reached.leads) (accesses_lawful reached.accesses (seen q).device sound.lawful);
      count = said ∙ sound.count ∙ ap (λ (k : Kept). length k.durable) (sym kept);
      kept = subst (Holds Q) (sym kept) sound.kept;
    }

-- a drive at power-on over such durable values
pub fresh_sound : (Q : ℕ → List ℕ → Type 0) (durable : List (List ℕ)) (room : ℕ) (memory : List ℕ)
    → ((s : ℕ) → s < length durable → Q s (get_or durable s []))
    → IsSound Q (physical_at_power_on (fresh room durable) (length durable) memory)
fresh_sound Q durable room memory all = record {
  lawful = power_lawful (cells_of (fresh room durable)) (length durable);
  count = refl;
  kept = record { entries = All-nil _; durable = all };
}
