-- Sectors stay whole along a run.
use Rattle.std.proofs.Common.{◌≡◌, ℕ, List, [], ◌∷◌, length, Option, Some, None, replicate, sym, subst}
use Rattle.std.specs.Prelude.{All}
use Rattle.std.proofs.lemmas.List.Elements.{All-from_get_or}
use Rattle.aoe_net.specs.Wire.{Wire}
use Rattle.plain_drive.specs.Physical.{Physical}
use Rattle.drive_model.specs.declared.cached_store.TheConstants.{MOST_ENTRIES}
use Rattle.schedule_text.specs.declared.Event.{Event}
use Rattle.schedule_text.specs.declared.Event.TheVariants as event
use Rattle.plain_run.specs.Entry.{Entry}
use Rattle.plain_run.specs.Run.{physical_event}
use Rattle.plain_run.proofs.Sound.{IsSound, event_sound, fresh_sound, reached_sound}
use Rattle.streaming.specs.Monitor.{Watched}
use Rattle.streaming.specs.Trace.{moved_by}
use Rattle.streaming.specs.World.{IsActed, IsSceneRun, Scene, started}

-- all values that a drive keeps of its sectors are whole
abbrev IsWhole : Physical → Type 0
IsWhole q = IsSound (λ s value. length value ≡ 512) q

event_whole : (one : Event) (q : Physical) → IsWhole q → IsWhole (physical_event one q)
event_whole one q sound = event_sound (λ s value. length value ≡ 512) (λ s value long. long) one q
    (λ s value aimed. aimed.0) sound

moved_whole : (one : Event) (q : Physical) → IsWhole q → IsWhole (moved_by one q)
moved_whole (event.Drive st) q sound = event_whole (event.Drive st) q sound
moved_whole (event.Destage k) q sound = event_whole (event.Destage k) q sound
moved_whole event.Cut q sound = event_whole event.Cut q sound
moved_whole one q sound = sound

acted_whole : (wire : Wire) (from to : Physical) (old : Option Watched) (entry : Entry) (new : Option Watched)
    → IsActed wire from to old entry new → IsWhole from → IsWhole to
acted_whole wire from to None entry None acted sound =
    subst IsWhole (sym acted.after) (event_whole entry.event from sound)
acted_whole wire from to None entry (Some new) acted sound = absurd acted
acted_whole wire from to (Some old) entry None acted sound = absurd acted
acted_whole wire from to (Some old) entry (Some new) acted sound =
    reached_sound (λ s value. length value ≡ 512) (moved_by entry.event from) to acted.drive.reached acted.drive.kept
    (moved_whole entry.event from sound)

run_whole : (told : Option (List ℕ)) (start now : Scene) (entries : List Entry) (count : ℕ)
    → IsSceneRun told start entries now count → IsWhole start.drive → IsWhole now.drive
run_whole told start now [] count run sound = subst (λ (scene : Scene). IsWhole scene.drive) (sym run.0) sound
run_whole told start now (entry ∷ earlier) count run sound =
    let before = run.0 in
    acted_whole before.wire before.drive now.drive before.watched entry now.watched run.4.acted
    (run_whole told start before earlier run.1 run.3 sound)

-- a run that began with whole sectors ends with whole ones
pub scene_whole : (told : Option (List ℕ)) (block memory image : ℕ) (sectors : List (List ℕ)) (entries : List Entry)
    (now : Scene) (count : ℕ) → All (λ sector. length sector ≡ 512) sectors
    → IsSceneRun told (started block memory image sectors) entries now count
    → All (λ sector. length sector ≡ 512) now.drive.kept.durable
scene_whole told block memory image sectors entries now count whole run =
    let sound = run_whole told (started block memory image sectors) now entries count run
    (fresh_sound (λ s value. length value ≡ 512) sectors MOST_ENTRIES (replicate memory 0)
    (λ s below. whole s [] below)) in
    All-from_get_or (λ sector. length sector ≡ 512) now.drive.kept.durable [] sound.kept.durable
