-- A tag for which the client takes a frame was asked for.
use Rattle.std.proofs.Common.{◌≡◌, ◌≤◌, ◌<◌, ◌++◌, ℕ, zero, suc, ◌+◌, ◌*◌, ◌-◌, Bool, true, false, inl, inr, List, [], ◌∷◌, length, map, Option, Some, None, option_map, refl, sym, ap, ◌∙◌, subst, arith}
use Rattle.std.specs.Prelude.{◌||◌, ◌==◌, nat_lt, if◌then◌else◌, slice_get}
use Rattle.std.specs.List.{range_with_len}
use Rattle.std.proofs.Math.ListN.{length-set}
use Rattle.std.proofs.lemmas.List.{length-map, length-replicate}
use Rattle.std.proofs.lemmas.Bool.{cases_eq, eq-eqb, ltb-false}
use Rattle.std.proofs.lemmas.Option.{slice_get_within}
use Rattle.aoe_net.specs.Wire.{Wire}
use Rattle.aoe_client.specs.declared.tags.TagState.{TagState}
use Rattle.aoe_client.specs.declared.tags.TheConstants.{RESEND_AGE}
use Rattle.aoe_client.specs.declared.tags.TagState.TheVariants.{Due, Unanswered, Answered}
use Rattle.aoe_client.specs.declared.client.Heard.{Heard}
use Rattle.aoe_client.specs.declared.client.Heard.TheVariants.{Took, Ignored}
use Rattle.aoe_client.specs.Fetching.{Fetching, due_again, due_of, first_tag, is_open, state_of, tag_sent, ticked, with_tag}
use Rattle.aoe_client.specs.Asking.{Asking, both_ticked, due_tags, heard, first_due, is_awaited, is_open_in, next_sent, slot_heard, slot_sent, tags_in, then_sent}
use Rattle.aoe_client.proofs.DueTags.{due_asked}
use Rattle.plain_drive.specs.Physical.{Physical}
use Rattle.schedule_text.specs.declared.Event.{Event}
use Rattle.schedule_text.specs.declared.Event.TheVariants as event
use Rattle.schedule_text.specs.declared.Item.{Item}
use Rattle.schedule_text.specs.declared.Item.TheVariants as item
use Rattle.plain_run.specs.Entry.{Entry}
use Rattle.streaming.specs.Network.{handed_to_client}
use Rattle.streaming.specs.Client.{ActsOnClient, ClientTurned, HearsIfAny, IsJustAsked, TakesFor, first_sent}
use Rattle.streaming.specs.Told.{asks, was_asked}
use Rattle.streaming.specs.Monitor.{MonitorEvent, Watched, answer_if, asked_items, item_of, reads}
use Rattle.streaming.specs.World.{IsActed, IsSceneRun, Scene, started, watched_over}

-- the block of a slot, and how many tags it has
abbrev span_of : Option Fetching → ℕ × ℕ
span_of None = (0, 0)
span_of (Some f) = (f.block, length f.tags)

-- a tag is one of such a block
abbrev Covers : ℕ → ℕ × ℕ → Type 0
Covers tag span = (span.0 * span.1 ≤ tag) × (tag < span.0 * span.1 + span.1)

-- sending, hearing and ageing leave the block that is asked for
tagged_span : (f : Fetching) (tag : ℕ) (state : TagState) → span_of (Some (with_tag state tag f)) ≡ span_of (Some f)
tagged_span f tag state = ap (λ n. (f.block, n)) (length-set f.tags (tag - first_tag f) state)

sent_span : (f : Fetching) (first : Option ℕ) → span_of (Some (tag_sent first f)) ≡ span_of (Some f)
sent_span f None = refl
sent_span f (Some tag) = tagged_span f tag Unanswered

slot_span : (s : Option Fetching) → span_of (slot_sent s) ≡ span_of s
slot_span None = refl
slot_span (Some f) = sent_span f (first_due (Some f))

then_span : (first : Option ℕ) (s : Option Fetching) → span_of (then_sent first s) ≡ span_of s
then_span None s = slot_span s
then_span (Some tag) s = refl

heard_span : (what : Heard) (s : Option Fetching) → span_of (slot_heard what s) ≡ span_of s
heard_span Ignored s = refl
heard_span (Took tag) None = refl
heard_span (Took tag) (Some f) = by_open (is_open (state_of tag f))
  where
    by_open : (b : Bool) → span_of (Some (if b then with_tag Answered tag f else f)) ≡ span_of (Some f)
    by_open true = tagged_span f tag Answered
    by_open false = refl

ticked_span : (f : Fetching) → span_of (Some (ticked f)) ≡ span_of (Some f)
ticked_span f = by_age (f.age + 1 == RESEND_AGE)
  where
    by_age : (b : Bool)
        → span_of (Some (if b then record f { age = 0; tags = map due_again f.tags } else record f { age = f.age + 1 }))
        ≡ span_of (Some f)
    by_age true = ap (λ n. (f.block, n)) (length-map f.tags due_again)
    by_age false = refl

all_spans : (n : ℕ) (c : Asking) → (span_of (first_sent n c).demand ≡ span_of c.demand)
    × (span_of (first_sent n c).background ≡ span_of c.background)
all_spans zero c = (refl, refl)
all_spans (suc n) c =
    let rest = all_spans n (next_sent c) in
    (rest.0 ∙ slot_span c.demand, rest.1 ∙ then_span (first_due c.demand) c.background)

-- an open tag is one of the block's
open_within : (tag first : ℕ) (tags : List TagState) (below : Bool) → nat_lt tag first ≡ below
    → (o : Option TagState) → slice_get tags (tag - first) ≡ o
    → is_open (if below then None else o) ≡ true → (first ≤ tag) × (tag < first + length tags)
open_within tag first tags true is o there yet = absurd cc
open_within tag first tags false is None there yet = absurd cc
open_within tag first tags false is (Some state) there yet =
    let above : first ≤ tag = ltb-false tag first is in
    (above, omega (arith, above, slice_get_within tags (tag - first) state there))

open_covers : (tag : ℕ) (s : Option Fetching) → is_open_in tag s ≡ true → Covers tag (span_of s)
open_covers tag None yet = absurd cc
open_covers tag (Some f) yet =
    open_within tag (first_tag f) f.tags (nat_lt tag (first_tag f)) refl (slice_get f.tags (tag - first_tag f)) refl yet

or_true : (a b : Bool) → b ≡ true → a || b ≡ true
or_true true b is = refl
or_true false b is = is

or_rest : (a b c : Bool) → (b ≡ true → c ≡ true) → a || b ≡ true → a || c ≡ true
or_rest true b c so is = refl
or_rest false b c so is = so is

or_first : (a b c : Bool) → (a ≡ true → b ≡ true) → a || c ≡ true → b || c ≡ true
or_first true b c so is = ap (λ x. x || c) (so refl)
or_first false b c so is = or_true b c is

-- each tag of a range is asked where the range is
asks_front : (tag : ℕ) (tags more : List ℕ) → asks tag (asked_items tags) ≡ true
    → asks tag (asked_items (tags ++ more)) ≡ true
asks_front tag [] more asked = absurd cc
asks_front tag (first ∷ tags) more asked =
    or_rest (first == tag) (asks tag (asked_items tags)) (asks tag (asked_items (tags ++ more)))
    (asks_front tag tags more) asked

asks_range : (tag first n : ℕ) → first ≤ tag → tag < first + n → asks tag (asked_items (range_with_len first n)) ≡ true
asks_range tag first zero above below = absurd (omega (above, below, arith))
asks_range tag first (suc n) above below = elim (cases_eq first tag) [
  | inl same ↦ ap (λ b. b || asks tag (asked_items (range_with_len (first + 1) n))) (eq-eqb first tag same)
  | inr apart ↦ or_true (first == tag) (asks tag (asked_items (range_with_len (first + 1) n)))
      (asks_range tag (first + 1) n (omega (above, apart, arith)) (omega (below, arith)))
]

asks_last : (tag : ℕ) (items last : List Item) → asks tag last ≡ true → asks tag (items ++ last) ≡ true
asks_last tag [] last asked = asked
asks_last tag (item.Asked first ∷ items) last asked =
    or_true (first == tag) (asks tag (items ++ last)) (asks_last tag items last asked)
asks_last tag (one ∷ items) last asked = asks_last tag items last asked

-- the tags of a block that was just asked for are asked
just_asks : (count : ℕ) (s : Option Fetching) (more : List ℕ) → IsJustAsked count s → (tag : ℕ)
    → Covers tag (span_of s) → asks tag (asked_items (due_of s ++ more)) ≡ true
just_asks count None more just tag covers = absurd just
just_asks count (Some f) more just tag covers =
    let many : length f.tags ≡ count = ap (λ (g : Fetching). length g.tags) just ∙ length-replicate count Due in
    let range : due_of (Some f) ≡ range_with_len (f.block * count) count
    = ap (λ (g : Fetching). due_of (Some g)) just ∙ due_asked count f.block f.lease in
    let within = subst (λ n. (f.block * n ≤ tag) × (tag < f.block * n + n)) many covers in
    asks_front tag (due_of (Some f)) more
    (subst (λ tags. asks tag (asked_items tags) ≡ true) (sym range)
    (asks_range tag (f.block * count) count within.0 within.1))

-- each tag of a slot's block was asked
abbrev AreAsked : List Entry → Option Fetching → Type 0
AreAsked entries s = (tag : ℕ) → Covers tag (span_of s) → was_asked tag entries ≡ true

record BothAsked (entries : List Entry) (c : Asking) : Type 0 where
  demand : AreAsked entries c.demand
  background : AreAsked entries c.background

module _ (wire : Wire) (old due : Asking) (earlier : List Entry) (were : BothAsked earlier old) where
  -- or it is asked now
  abbrev AskedNow : Option Fetching → Type 0
  AskedNow s = (tag : ℕ) → Covers tag (span_of s)
      → asks tag (asked_items (due_tags due)) || was_asked tag earlier ≡ true

  kept_asked : (s t : Option Fetching) → span_of s ≡ span_of t → AreAsked earlier t → AskedNow s
  kept_asked s t same asked tag covers = or_true (asks tag (asked_items (due_tags due))) (was_asked tag earlier)
      (asked tag (subst (Covers tag) same covers))

  both_kept : (c : Asking) → due ≡ c → span_of c.demand ≡ span_of old.demand
      → span_of c.background ≡ span_of old.background → AskedNow due.demand × AskedNow due.background
  both_kept c is demand background = (
    kept_asked due.demand old.demand (ap (λ (x : Asking). span_of x.demand) is ∙ demand) were.demand,
    kept_asked due.background old.background (ap (λ (x : Asking). span_of x.background) is ∙ background)
        were.background,
  )

  turned_asked : ClientTurned old due → AskedNow due.demand × AskedNow due.background
  turned_asked (inl same) = both_kept old same refl refl
  turned_asked (inr (inl asked)) = (
    λ tag covers. ap (λ b. b || was_asked tag earlier)
        (just_asks (tags_in old.block) due.demand (due_of due.background) asked.asked tag covers),
    kept_asked due.background old.background (ap (λ (x : Asking). span_of x.background) asked.others) were.background,
  )
  turned_asked (inr (inr collected)) = (
    λ tag covers.
        let none = subst (Covers tag) (ap (λ (x : Asking). span_of x.demand) collected.freed) covers in
        absurd (omega (none.1, arith)),
    kept_asked due.background old.background (ap (λ (x : Asking). span_of x.background) collected.freed)
        were.background,
  )

  aged_span : (s : Option Fetching) → span_of (option_map ticked s) ≡ span_of s
  aged_span None = refl
  aged_span (Some f) = ticked_span f

  heard_asked : (frame : Option (List ℕ)) → HearsIfAny frame old due → AskedNow due.demand × AskedNow due.background
  heard_asked None same = both_kept old same refl refl
  heard_asked (Some frame) hears =
      both_kept (heard hears.what old) hears.after (heard_span hears.what old.demand)
      (heard_span hears.what old.background)

  acts_asked : (one : Event) → ActsOnClient one wire old due → AskedNow due.demand × AskedNow due.background
  acts_asked event.Turn acts = turned_asked acts
  acts_asked event.Tick acts = both_kept (both_ticked old) acts (aged_span old.demand) (aged_span old.background)
  acts_asked one acts = heard_asked (handed_to_client one wire) acts

monitor_asked : (wire : Wire) (told : Option Item) (old new : Watched) (entry : Entry) (earlier : List Entry)
    → MonitorEvent wire told old entry new → BothAsked earlier old.asking → BothAsked (entry ∷ earlier) new.asking
monitor_asked wire told old new entry earlier one were =
    let due = one.due in
    let now = acts_asked wire old.asking due earlier were entry.event one.acts in
    let sent = all_spans (length (due_tags due)) due in
    let asked = asked_items (due_tags due) in
    let told_too : (tag : ℕ) → asks tag asked ≡ true → asks tag entry.items ≡ true
    = λ tag is. subst (λ items. asks tag items ≡ true) (sym one.items)
    (asks_last tag (answer_if (reads entry.event) ++ item_of told) asked is) in
    record {
      demand = λ tag covers. or_first (asks tag asked) (asks tag entry.items) (was_asked tag earlier) (told_too tag)
          (now.0 tag (subst (Covers tag) (ap (λ (x : Asking). span_of x.demand) one.sent ∙ sent.0) covers));
      background = λ tag covers. or_first (asks tag asked) (asks tag entry.items) (was_asked tag earlier) (told_too tag)
          (now.1 tag (subst (Covers tag) (ap (λ (x : Asking). span_of x.background) one.sent ∙ sent.1) covers));
    }

-- of a monitor's client, where there is one
abbrev ClientAsked : List Entry → Option Watched → Type 0
ClientAsked entries None = Unit {0}
ClientAsked entries (Some watched) = BothAsked entries watched.asking

acted_asked : (wire : Wire) (from to : Physical) (old : Option Watched) (entry : Entry) (new : Option Watched)
    (earlier : List Entry) → IsActed wire from to old entry new → ClientAsked earlier old
    → ClientAsked (entry ∷ earlier) new
acted_asked wire from to None entry None earlier acted were = tt
acted_asked wire from to None entry (Some new) earlier acted were = absurd acted
acted_asked wire from to (Some old) entry None earlier acted were = tt
acted_asked wire from to (Some old) entry (Some new) earlier acted were =
    monitor_asked wire acted.told old new entry earlier acted.monitor were

scene_asked : (told : Option (List ℕ)) (start now : Scene) (entries : List Entry) (count : ℕ)
    → IsSceneRun told start entries now count → ClientAsked [] start.watched → ClientAsked entries now.watched
scene_asked told start now [] count run were =
    subst (λ (scene : Scene). ClientAsked [] scene.watched) (sym run.0) were
scene_asked told start now (entry ∷ earlier) count run were =
    let before = run.0 in
    acted_asked before.wire before.drive now.drive before.watched entry now.watched earlier run.4.acted
    (scene_asked told start before earlier run.1 run.3 were)

start_asked : (block image : ℕ) → ClientAsked [] (watched_over block image)
start_asked block zero = tt
start_asked block (suc n) = record {
  demand = λ tag covers. absurd (omega (covers.1, arith));
  background = λ tag covers. absurd (omega (covers.1, arith));
}

awaited_asked : (entries : List Entry) (tag : ℕ) (c : Asking) → BothAsked entries c → is_awaited tag c ≡ true
    → was_asked tag entries ≡ true
awaited_asked entries tag c were awaited = by_demand (is_open_in tag c.demand) refl awaited
  where
    by_demand : (b : Bool) → is_open_in tag c.demand ≡ b → b || is_open_in tag c.background ≡ true
        → was_asked tag entries ≡ true
    by_demand true is awaited = were.demand tag (open_covers tag c.demand is)
    by_demand false is awaited = were.background tag (open_covers tag c.background awaited)

pub taken_asked : (told : Option (List ℕ)) (block memory image : ℕ) (sectors : List (List ℕ)) (entries : List Entry)
    (now : Scene) (count : ℕ) → IsSceneRun told (started block memory image sectors) entries now count
    → (watched : Watched) → now.watched ≡ Some watched → (tag : ℕ) (frame : List ℕ)
    → TakesFor tag frame watched.asking → was_asked tag entries ≡ true
taken_asked told block memory image sectors entries now count run watched is tag frame takes =
    let asked = scene_asked told (started block memory image sectors) now entries count run (start_asked block image) in
    awaited_asked entries tag watched.asking (subst (ClientAsked entries) is asked) takes.1
