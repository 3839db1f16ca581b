-- How often a run tells that opening has ended.
use Rattle.std.proofs.Common.{◌≡◌, ◌≤◌, ◌++◌, ℕ, zero, suc, ◌+◌, Bool, true, false, List, [], ◌∷◌, Option, Some, None, refl, ap, ◌∙◌, arith}
use Rattle.std.specs.Prelude.{All, not, ◌&&◌}
use Rattle.std.proofs.lemmas.List.Elements.{All-head, All-tail}
use Rattle.aoe_net.specs.Wire.{Wire}
use Rattle.aoe_client.specs.Asking.{due_tags}
use Rattle.plain_drive.specs.Physical.{Physical}
use Rattle.schedule_text.specs.declared.Item.{Item}
use Rattle.schedule_text.specs.declared.Item.TheVariants as item
use Rattle.plain_run.specs.Entry.{Entry, is_monitors}
use Rattle.plain_run.proofs.Alone.{event_alone}
use Rattle.streaming.specs.Told.{readies_along, readies_in, tells_ready}
use Rattle.streaming.specs.Monitor.{MonitorEvent, Watched, answer_if, asked_items, item_of, reads}
use Rattle.streaming.specs.World.{IsActed, IsSceneRun, Scene, started, watched_over}

-- whether opening has ended, as a number
abbrev ended_in : Bool → ℕ
ended_in true = 1
ended_in false = 0

abbrev ended : Option Watched → ℕ
ended None = 0
ended (Some watched) = ended_in watched.opened

-- what is told of it among two lists of items, one behind the other
readies_behind : (items last : List Item) → readies_in (items ++ last) ≡ readies_in items + readies_in last
readies_behind [] last = omega arith
readies_behind (item.Ready ∷ items) last = omega (arith, readies_behind items last)
readies_behind (one ∷ items) last = readies_behind items last

-- where no item is a monitor's, nothing is
none_ready : (items : List Item) → All (λ one. is_monitors one ≡ false) items → readies_in items ≡ 0
none_ready [] alone = refl
none_ready (item.Ready ∷ items) alone =
    let its_own : is_monitors item.Ready ≡ false =
    All-head (λ one. is_monitors one ≡ false) item.Ready items alone in
    cc
none_ready (other ∷ items) alone = none_ready items (All-tail (λ one. is_monitors one ≡ false) other items alone)

answer_unready : (b : Bool) → readies_in (answer_if b) ≡ 0
answer_unready true = refl
answer_unready false = refl

asked_unready : (tags : List ℕ) → readies_in (asked_items tags) ≡ 0
asked_unready [] = refl
asked_unready (tag ∷ tags) = asked_unready tags

told_ready : (told : Option Item) → readies_in (item_of told) ≡ ended_in (tells_ready told)
told_ready told = grind arith

-- opening ends where that is told, and doesn't begin again
ends : (was is : Bool) → (was ≡ true → is ≡ true) → ended_in (not was && is) + ended_in was ≡ ended_in is
ends true true stays = refl
ends true false stays = absurd (cc (stays refl))
ends false is stays = omega arith

monitor_ends : (wire : Wire) (told : Option Item) (old new : Watched) (entry : Entry)
    → MonitorEvent wire told old entry new → readies_in entry.items + ended_in old.opened ≡ ended_in new.opened
monitor_ends wire told old new entry one =
    let answer = answer_if (reads entry.event) in
    let asked = asked_items (due_tags one.due) in
    let first = readies_behind answer (item_of told) in
    let all = ap readies_in one.items ∙ readies_behind (answer ++ item_of told) asked in
    let none = answer_unready (reads entry.event) in
    let sent = asked_unready (due_tags one.due) in
    let it = told_ready told ∙ ap ended_in one.ready in
    let here : readies_in entry.items ≡ ended_in (not old.opened && new.opened)
    = omega (arith, all, first, none, sent, it) in
    ap (λ n. n + ended_in old.opened) here ∙ ends old.opened new.opened one.stays

acted_ends : (wire : Wire) (from to : Physical) (old : Option Watched) (entry : Entry) (new : Option Watched)
    → IsActed wire from to old entry new → readies_in entry.items + ended old ≡ ended new
acted_ends wire from to None entry None acted =
    ap (λ n. n + 0) (none_ready entry.items (event_alone from to entry acted))
acted_ends wire from to None entry (Some new) acted = absurd acted
acted_ends wire from to (Some old) entry None acted = absurd acted
acted_ends wire from to (Some old) entry (Some new) acted = monitor_ends wire acted.told old new entry acted.monitor

scene_ends : (told : Option (List ℕ)) (start now : Scene) (entries : List Entry) (count : ℕ)
    → IsSceneRun told start entries now count → readies_along entries + ended start.watched ≡ ended now.watched
scene_ends told start now [] count run =
    let same = ap (λ (scene : Scene). ended scene.watched) run.0 in
    omega (arith, same)
scene_ends told start now (entry ∷ earlier) count run =
    let before = run.0 in
    let were = scene_ends told start before earlier run.1 run.3 in
    let more = acted_ends before.wire before.drive now.drive before.watched entry now.watched run.4.acted in
    omega (arith, were, more)

most_ended : (watched : Option Watched) → ended watched ≤ 1
most_ended watched = grind arith

none_ended : (block image : ℕ) → ended (watched_over block image) ≡ 0
none_ended block zero = refl
none_ended block (suc n) = refl

pub ready_at_most : (told : Option (List ℕ)) (block memory image : ℕ) (sectors : List (List ℕ)) (entries : List Entry)
    (now : Scene) (count : ℕ) → IsSceneRun told (started block memory image sectors) entries now count
    → readies_along entries ≤ 1
ready_at_most told block memory image sectors entries now count run =
    let ends_so = scene_ends told (started block memory image sectors) now entries count run in
    let none = none_ended block image in
    let most = most_ended now.watched in
    omega (arith, ends_so, none, most)
