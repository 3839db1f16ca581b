-- A sector that no line of a write names, along a run with a monitor.
use Rattle.std.proofs.Common.{◌≡◌, ℕ, zero, suc, Bool, true, false, ◌⊎◌, inl, inr, List, [], ◌∷◌, length, get_or, Option, Some, None, replicate, refl, sym, ap, ◌∙◌, subst, arith}
use Rattle.std.specs.Prelude.{All, if◌then◌else◌}
use Rattle.std.proofs.lemmas.Bool.{or_parts}
use Rattle.ata_taskfile.specs.declared.Access.{Access}
use Rattle.ata_taskfile.specs.declared.Access.TheVariants as access
use Rattle.ata_taskfile.specs.declared.Reg.{Reg}
use Rattle.ata_taskfile.specs.declared.Phase.{Phase}
use Rattle.ata_taskfile.specs.declared.Phase.TheVariants.{Reset, Idle, Busy, Ready}
use Rattle.ata_taskfile.specs.declared.task_file.TaskFile.{TaskFile}
use Rattle.ata_taskfile.specs.Access.{accessed}
use Rattle.ata_taskfile.specs.Accesses.{all_accessed}
use Rattle.ata_taskfile.specs.Device.{Device, after_write8}
use Rattle.ata_taskfile.specs.Lawful.{is_in_reset, is_just_taken}
use Rattle.aoe_net.specs.Wire.{Wire}
use Rattle.plain_drive.specs.Physical.{Kept, Physical, seen}
use Rattle.drive_model.specs.declared.cached_store.TheConstants.{MOST_ENTRIES}
use Rattle.schedule_text.specs.declared.Event.{Event}
use Rattle.schedule_text.specs.declared.Event.TheVariants as event
use Rattle.schedule_text.specs.declared.Item.{Item}
use Rattle.schedule_text.specs.Taken.{commands_due, just_taken}
use Rattle.plain_run.specs.Entry.{Entry}
use Rattle.plain_run.specs.Written.{is_named, items_name}
use Rattle.plain_run.proofs.Aims.{aims_in, read8_away, read_away, step_away, write8_away, write_away}
use Rattle.plain_run.proofs.Named.{IsUntouched, Same, commands_name, untouched_end, untouched_event, untouched_sound, untouched_start}
use Rattle.plain_run.proofs.Sectors.{event_length}
use Rattle.plain_run.proofs.Sound.{IsSound, reached_sound}
use Rattle.streaming.specs.Told.{command_told}
use Rattle.streaming.specs.Monitor.{Watched}
use Rattle.streaming.specs.Trace.{IsTraced, moved_by}
use Rattle.streaming.specs.World.{IsActed, IsSceneRun, Scene, started}
use Rattle.streaming.proofs.Lines.{event_commands}

module _ (s : ℕ) where
  -- the line of the command that was just taken, where one was, names the sector
  abbrev Names : TaskFile → Type 0
  Names f = items_name s (just_taken f.command f.phase) ≡ true

  names_taken : (byte : ℕ) (phase : Phase) → items_name s (just_taken byte phase) ≡ true → is_just_taken phase ≡ true
  names_taken byte (Busy order zero) names = refl
  names_taken byte (Busy order (suc done)) names = cc
  names_taken byte Reset names = cc
  names_taken byte Idle names = cc
  names_taken byte (Ready order done left) names = cc

  -- the order in hand brings no data to the sector, or it was just taken and its line names the sector
  abbrev Shows : TaskFile → Type 0
  Shows f = (aims_in s f.phase ≡ false) ⊎ Names f

  reset_away : (phase : Phase) → is_in_reset phase ≡ true → aims_in s phase ≡ false
  reset_away phase reset = grind arith

  -- a command of which nothing is done stays in hand under an access, unless a reset ends it
  access_phase : (a : Access) (d : Device) → is_just_taken d.file.phase ≡ true
      → is_in_reset (accessed a d).file.phase ≡ false → (accessed a d).file.phase ≡ d.file.phase
  access_phase a d taken works = grind arith

  access_command : (a : Access) (d : Device) → is_just_taken d.file.phase ≡ true
      → is_in_reset (accessed a d).file.phase ≡ false → (accessed a d).file.command ≡ d.file.command
  access_command a d taken works = grind arith

  access_named : (a : Access) (d : Device) → Names d.file → Shows (accessed a d).file
  access_named a d names = by_reset (is_in_reset (accessed a d).file.phase) refl
    where
      by_reset : (reset : Bool) → is_in_reset (accessed a d).file.phase ≡ reset → Shows (accessed a d).file
      by_reset true is = inl (reset_away (accessed a d).file.phase is)
      by_reset false is =
          let taken = names_taken d.file.command d.file.phase names in
          inr (rw (access_command a d taken is, access_phase a d taken is) names)

  -- and another comes into hand with its line
  due_named : (before : Bool) (items : List Item) → items_name s (if before then [] else items) ≡ true
      → items_name s items ≡ true
  due_named true items names = cc
  due_named false items names = names

  write8_shows : (r : Reg) (v : ℕ) (d : Device) → aims_in s d.file.phase ≡ false → Shows (after_write8 r v d).file
  write8_shows r v d away = by_line (items_name s (commands_due d.file (after_write8 r v d).file)) refl
    where
      by_line : (names : Bool) → items_name s (commands_due d.file (after_write8 r v d).file) ≡ names
          → Shows (after_write8 r v d).file
      by_line false unnamed = inl (write8_away s r v d away unnamed)
      by_line true names = inr (due_named (is_just_taken d.file.phase) _ names)

  access_away : (a : Access) (d : Device) → aims_in s d.file.phase ≡ false → Shows (accessed a d).file
  access_away (access.Read8 r) d away = inl (read8_away s r d away)
  access_away (access.Write8 r v) d away = write8_shows r v d away
  access_away access.ReadWord d away = inl (read_away s d.file.phase away)
  access_away (access.WriteWord w) d away = inl (write_away s d.file.phase away)
  access_away a d away = inl away

  accesses_show : (accesses : List Access) (d : Device) → Shows d.file → Shows (all_accessed accesses d).file
  accesses_show [] d shows = shows
  accesses_show (a ∷ accesses) d (inl away) = accesses_show accesses (accessed a d) (access_away a d away)
  accesses_show (a ∷ accesses) d (inr names) = accesses_show accesses (accessed a d) (access_named a d names)

  -- so where no line names the sector, it is away after the event too
  shown_away : (old new : TaskFile) → Shows new → aims_in s old.phase ≡ false
      → (is_just_taken old.phase ≡ true → is_just_taken new.phase ≡ true → new.phase ≡ old.phase)
      → items_name s (commands_due old new) ≡ false → aims_in s new.phase ≡ false
  shown_away old new (inl away) was begins unnamed = away
  shown_away old new (inr names) was begins unnamed = by_taken (is_just_taken old.phase) refl
    where
      by_taken : (taken : Bool) → is_just_taken old.phase ≡ taken → aims_in s new.phase ≡ false
      by_taken true is = rw (begins is (names_taken new.command new.phase names)) was
      by_taken false is =
          let none : items_name s (just_taken new.command new.phase) ≡ false
          = sym (ap (λ b. items_name s (if b then [] else just_taken new.command new.phase)) is) ∙ unnamed in
          absurd (cc (names, none))

  -- the drive's own move brings no order into hand
  moved_away : (one : Event) (q : Physical) → aims_in s q.file.phase ≡ false
      → aims_in s (moved_by one q).file.phase ≡ false
  moved_away (event.Drive st) q away = step_away s st (seen q) away
  moved_away event.Cut q away = refl
  moved_away one q away = away

module _ (s : ℕ) (value : List ℕ) where
  moved_sound : (one : Event) (q : Physical) → IsUntouched s value q → IsSound (Same s value) (moved_by one q)
  moved_sound (event.Drive st) q was = untouched_sound s value (event.Drive st) q was
  moved_sound (event.Destage k) q was = untouched_sound s value (event.Destage k) q was
  moved_sound event.Cut q was = untouched_sound s value event.Cut q was
  moved_sound one q was = was.sound

  traced_untouched : (one : Event) (commands : List Item) (q new : Physical) → IsTraced one commands q new
      → items_name s commands ≡ false → IsUntouched s value q → IsUntouched s value new
  traced_untouched one commands q new traced unnamed was =
      let moved = moved_by one q in
      let reached = traced.reached in
      let shown : Shows s new.file = subst (λ (d : Device). Shows s d.file) (sym reached.leads)
      (accesses_show s reached.accesses (seen moved).device (inl (moved_away s one q was.away))) in
      record {
        sound = reached_sound (Same s value) moved new reached traced.kept (moved_sound one q was);
        away = shown_away s q.file new.file shown was.away traced.begins
            (ap (items_name s) (sym traced.commands_are) ∙ unnamed);
      }

  acted_untouched : (wire : Wire) (from to : Physical) (old : Option Watched) (entry : Entry) (new : Option Watched)
      → IsActed wire from to old entry new → items_name s entry.items ≡ false
      → IsUntouched s value from → IsUntouched s value to
  acted_untouched wire from to None entry None acted unnamed was =
      untouched_event s value entry from to acted unnamed was
  acted_untouched wire from to None entry (Some new) acted unnamed was = absurd acted
  acted_untouched wire from to (Some old) entry None acted unnamed was = absurd acted
  acted_untouched wire from to (Some old) entry (Some new) acted unnamed was =
      traced_untouched entry.event (command_told acted.told) from to acted.drive
      (ap (items_name s) (sym (event_commands wire acted.told old new entry acted.monitor))
      ∙ commands_name s entry.items ∙ unnamed) was

  scene_untouched : (told : Option (List ℕ)) (start now : Scene) (entries : List Entry) (count : ℕ)
      → is_named s entries ≡ false → IsSceneRun told start entries now count
      → IsUntouched s value start.drive → IsUntouched s value now.drive
  scene_untouched told start now [] count unnamed run was =
      subst (λ (scene : Scene). IsUntouched s value scene.drive) (sym run.0) was
  scene_untouched told start now (entry ∷ earlier) count unnamed run was =
      let parts = or_parts (items_name s entry.items) (is_named s earlier) unnamed in
      let before = run.0 in
      acted_untouched before.wire before.drive now.drive before.watched entry now.watched run.4.acted parts.0
      (scene_untouched told start before earlier run.1 parts.1 run.3 was)

-- a run has as many sectors at its end as at its start
moved_length : (one : Event) (q : Physical) → length (moved_by one q).kept.durable ≡ length q.kept.durable
moved_length (event.Drive st) q = event_length (event.Drive st) q
moved_length (event.Destage k) q = event_length (event.Destage k) q
moved_length one q = refl

acted_length : (wire : Wire) (from to : Physical) (old : Option Watched) (entry : Entry) (new : Option Watched)
    → IsActed wire from to old entry new → length to.kept.durable ≡ length from.kept.durable
acted_length wire from to None entry None acted =
    ap (λ (q : Physical). length q.kept.durable) acted.after ∙ event_length entry.event from
acted_length wire from to None entry (Some new) acted = absurd acted
acted_length wire from to (Some old) entry None acted = absurd acted
acted_length wire from to (Some old) entry (Some new) acted =
    ap (λ (k : Kept). length k.durable) acted.drive.kept ∙ moved_length entry.event from

pub scene_length : (told : Option (List ℕ)) (start now : Scene) (entries : List Entry) (count : ℕ)
    → IsSceneRun told start entries now count → length now.drive.kept.durable ≡ length start.drive.kept.durable
scene_length told start now [] count run = ap (λ (scene : Scene). length scene.drive.kept.durable) run.0
scene_length told start now (entry ∷ earlier) count run =
    let before = run.0 in
    acted_length before.wire before.drive now.drive before.watched entry now.watched run.4.acted
    ∙ scene_length told start before earlier run.1 run.3

pub unnamed_stays : (told : Option (List ℕ)) (block memory image : ℕ) (sectors : List (List ℕ)) (entries : List Entry)
    (now : Scene) (count s : ℕ) → All (λ sector. length sector ≡ 512) sectors
    → IsSceneRun told (started block memory image sectors) entries now count → is_named s entries ≡ false
    → get_or now.drive.kept.durable s [] ≡ get_or sectors s []
unnamed_stays told block memory image sectors entries now count s whole run unnamed =
    let start = started block memory image sectors in
    untouched_end sectors s now.drive (scene_length told start now entries count run)
    (scene_untouched s (get_or sectors s []) told start now entries count unnamed run
    (untouched_start MOST_ENTRIES sectors (replicate memory 0) s whole))
