-- What a run of a physical drive leaves of its sectors.
use Rattle.std.proofs.Common.{◌≡◌, ℕ, true, false, List, [], ◌∷◌, length, get_or, refl, sym, ap, ◌∙◌, subst, arith, inl, inr}
use Rattle.std.specs.Prelude.{◌||◌, All}
use Rattle.std.proofs.lemmas.Bool.{cases_lt, or_parts}
use Rattle.std.proofs.lemmas.List.{get_or_past}
use Rattle.std.proofs.lemmas.List.Elements.{All-from_get_or}
use Rattle.ata_taskfile.specs.Device.{Device}
use Rattle.plain_drive.specs.Plain.{words_of}
use Rattle.plain_drive.proofs.Accesses.{words_accessed, written_accessed}
use Rattle.plain_drive.specs.Physical.{Physical, seen, fresh, physical_at_power_on}
use Rattle.schedule_text.specs.declared.Event.{Event}
use Rattle.schedule_text.specs.declared.Event.TheVariants as event
use Rattle.schedule_text.specs.declared.Item.{Item}
use Rattle.schedule_text.specs.declared.Item.TheVariants as item
use Rattle.plain_run.specs.Entry.{Entry, commands_in}
use Rattle.plain_run.specs.Run.{DriveEvent, IsDriveRun, physical_event}
use Rattle.schedule_text.specs.Taken.{commands_due}
use Rattle.plain_run.specs.Written.{items_name, names_write, is_named}
use Rattle.plain_run.proofs.Aims.{aims_in, read8_away, step_away, words_away, write8_away, written_away}
use Rattle.plain_run.proofs.Told.{commands_told}
use Rattle.plain_run.proofs.Sectors.{run_length}
use Rattle.plain_run.proofs.Sound.{IsSound, event_sound, fresh_sound}

-- whole values stay whole
abbrev Whole : ℕ → List ℕ → Type 0
Whole s value = length value ≡ 512

sound_run : (start now : Physical) (entries : List Entry) → IsSound Whole start → IsDriveRun start entries now
    → IsSound Whole now
sound_run start now [] sound run = subst (IsSound Whole) (sym run) sound
sound_run start now (entry ∷ earlier) sound (before, run, last) =
    subst (IsSound Whole) (sym last.after)
    (event_sound Whole (λ s value one. one) entry.event before (λ s value one. one.0)
    (sound_run start before earlier sound run))

-- of the items only commands name a sector
pub commands_name : (s : ℕ) (items : List Item) → items_name s (commands_in items) ≡ items_name s items
commands_name s [] = refl
commands_name s (item.Command byte first count ∷ items) =
    ap (λ rest. names_write s (item.Command byte first count) || rest)
    (commands_name s items)
commands_name s (one ∷ items) = commands_name s items

-- an event that takes no command whose line names the sector brings none into hand that brings data to it
event_away : (s : ℕ) (one : Event) (q : Physical) → aims_in s q.file.phase ≡ false
    → items_name s (commands_due q.file (physical_event one q).file) ≡ false
    → aims_in s (physical_event one q).file.phase ≡ false
event_away s (event.Read8 r) q away unnamed = read8_away s r (seen q).device away
event_away s (event.Write8 r v) q away unnamed = write8_away s r v (seen q).device away unnamed
event_away s (event.ReadWords n) q away unnamed =
    subst (λ (d : Device). aims_in s d.file.phase ≡ false) (sym (words_accessed n (seen q).device))
    (words_away s n (seen q).device away)
event_away s (event.WriteWords bytes) q away unnamed =
    subst (λ (d : Device). aims_in s d.file.phase ≡ false) (sym (written_accessed (words_of bytes) (seen q).device))
    (written_away s (words_of bytes) (seen q).device away)
event_away s (event.Drive st) q away unnamed = step_away s st (seen q) away
event_away s event.Cut q away unnamed = refl
event_away s one q away unnamed = away

module _ (s : ℕ) (value : List ℕ) where
  -- a whole sector, and of this one no other value
  abbrev pub Same : ℕ → List ℕ → Type 0
  Same at found = (length found ≡ 512) × (at ≡ s → found ≡ value)

  -- no other value of the sector is kept, and none is on its way
  pub record IsUntouched (q : Physical) : Type 0 where
    pub sound : IsSound Same q
    pub away : aims_in s q.file.phase ≡ false

  pub untouched_sound : (one : Event) (q : Physical) → IsUntouched q → IsSound Same (physical_event one q)
  untouched_sound one q was =
      let elsewhere : aims_in s q.file.phase ≡ true → ⊥ = λ aims. cc (was.away, aims) in
      event_sound Same (λ at found one. one.0) one q
      (λ at found one. (
        one.0,
        λ same. absurd (elsewhere (subst (λ i. aims_in i q.file.phase ≡ true) same one.1)),
      )) was.sound

  pub untouched_event : (entry : Entry) (q new : Physical) → DriveEvent q entry new
      → items_name s entry.items ≡ false → IsUntouched q → IsUntouched new
  untouched_event entry q new one unnamed was =
      let commands = ap commands_in one.items ∙ commands_told entry.event q new in
      let unnoted : items_name s (commands_due q.file new.file) ≡ false
      = ap (items_name s) (sym commands) ∙ commands_name s entry.items ∙ unnamed in
      subst IsUntouched (sym one.after) (record {
        sound = untouched_sound entry.event q was;
        away = event_away s entry.event q was.away
            (subst (λ (p : Physical). items_name s (commands_due q.file p.file) ≡ false) one.after unnoted);
      })

  untouched_run : (start now : Physical) (entries : List Entry) → is_named s entries ≡ false → IsUntouched start
      → IsDriveRun start entries now → IsUntouched now
  untouched_run start now [] unnamed was run = subst IsUntouched (sym run) was
  untouched_run start now (entry ∷ earlier) unnamed was (before, run, last) =
      let parts = or_parts (items_name s entry.items) (is_named s earlier) unnamed in
      untouched_event entry before now last parts.0 (untouched_run start before earlier parts.1 was run)

-- so begins a drive with whole sectors, all of them durable
pub untouched_start : (room : ℕ) (durable : List (List ℕ)) (memory : List ℕ) (s : ℕ)
    → All (λ sector. length sector ≡ 512) durable
    → IsUntouched s (get_or durable s []) (physical_at_power_on (fresh room durable) (length durable) memory)
untouched_start room durable memory s all = record {
  sound = fresh_sound (Same s (get_or durable s [])) durable room memory
      (λ at below. (all at [] below, λ same. ap (λ i. get_or durable i []) same));
  away = refl;
}

-- and where it ends so, with as many sectors, the sector has its value
pub untouched_end : (durable : List (List ℕ)) (s : ℕ) (now : Physical) → length now.kept.durable ≡ length durable
    → IsUntouched s (get_or durable s []) now → get_or now.kept.durable s [] ≡ get_or durable s []
untouched_end durable s now many end = elim (cases_lt s (length now.kept.durable)) [
  | inl below ↦ (end.sound.kept.durable s below).1 refl
  | inr past ↦ get_or_past now.kept.durable s [] past ∙ sym (get_or_past durable s [] (omega (arith, many)))
]

-- at the end of a run that began with whole sectors, all of them durable:
module _ (room : ℕ) (durable : List (List ℕ)) (memory : List ℕ) (entries : List Entry) (now : Physical) where
  -- there are as many sectors
  pub run_count : IsDriveRun (physical_at_power_on (fresh room durable) (length durable) memory) entries now
      → length now.kept.durable ≡ length durable
  run_count run = run_length (physical_at_power_on (fresh room durable) (length durable) memory) now entries run

  -- they are whole
  pub run_whole : All (λ sector. length sector ≡ 512) durable
      → IsDriveRun (physical_at_power_on (fresh room durable) (length durable) memory) entries now
      → All (λ sector. length sector ≡ 512) now.kept.durable
  run_whole all run =
      let start : Physical = physical_at_power_on (fresh room durable) (length durable) memory in
      let sound = sound_run start now entries (fresh_sound Whole durable room memory (λ s below. all s [] below)) run in
      All-from_get_or (λ sector. length sector ≡ 512) now.kept.durable [] sound.kept.durable

  -- and one that no line of a write names has its value
  pub only_named : All (λ sector. length sector ≡ 512) durable
      → IsDriveRun (physical_at_power_on (fresh room durable) (length durable) memory) entries now
      → (s : ℕ) → is_named s entries ≡ false → get_or now.kept.durable s [] ≡ get_or durable s []
  only_named all run s unnamed =
      let start : Physical = physical_at_power_on (fresh room durable) (length durable) memory in
      untouched_end durable s now (run_count run) (untouched_run s (get_or durable s []) start now entries unnamed
      (untouched_start room durable memory s all) run)
