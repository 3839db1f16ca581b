-- What is due once requests were sent.
use Rattle.std.proofs.Common.{◌≡◌, ℕ, zero, suc, List, [], ◌∷◌, ◌++◌, length, drop, slice_get, Option, Some, None, refl, sym, ap, ◌∙◌}
use Rattle.std.specs.Prelude.{option_map}
use Rattle.aoe_client.specs.Fetching.{Fetching, due_of, tag_sent}
use Rattle.aoe_client.specs.Asking.{Asking, due_tags, first_due, next_sent, then_sent}
use Rattle.aoe_client.proofs.DueTags.{all_left}
use Rattle.aoe_net.specs.Wire.{Wire}
use Rattle.schedule_text.specs.declared.Item.{Item}
use Rattle.plain_run.specs.Entry.{Entry}
use Rattle.streaming.specs.Client.{all_sent, first_sent}
use Rattle.streaming.specs.Monitor.{MonitorEvent, Watched}

pub both_empty : (xs ys : List ℕ) → xs ++ ys ≡ [] → (xs ≡ []) × (ys ≡ [])
both_empty [] ys empty = (refl, empty)
both_empty (x ∷ xs) ys empty = cc

drop_more : (tags : List ℕ) (n : ℕ) → drop n (drop 1 tags) ≡ drop (suc n) tags
drop_more [] zero = refl
drop_more [] (suc n) = refl
drop_more (tag ∷ tags) n = refl

-- the first so many tags are no longer due, and all others are
left_after : (n : ℕ) (c : Asking) → due_tags (first_sent n c) ≡ drop n (due_tags c)
left_after zero c = refl
left_after (suc n) c =
    left_after n (next_sent c) ∙ ap (drop n) (all_left c) ∙ drop_more (due_tags c) n

drop_all : (tags : List ℕ) → drop (length tags) tags ≡ []
drop_all [] = refl
drop_all (tag ∷ tags) = drop_all tags

-- none is due once all were sent
pub none_left : (c : Asking) → due_tags (all_sent c) ≡ []
none_left c = left_after (length (due_tags c)) c ∙ drop_all (due_tags c)

-- where none is due all were sent
pub none_due_all_sent : (c : Asking) → due_tags c ≡ [] → all_sent c ≡ c
none_due_all_sent c none = ap (λ tags. first_sent (length tags) c) none

slot_stays : (due : Option ℕ) (f : Option Fetching) → due ≡ None → option_map (tag_sent due) f ≡ f
slot_stays None None none = refl
slot_stays None (Some f) none = refl
slot_stays (Some tag) f none = cc

then_stays : (due : Option ℕ) (f : Option Fetching) → due ≡ None → first_due f ≡ None → then_sent due f ≡ f
then_stays None f none own = slot_stays (first_due f) f own
then_stays (Some tag) f none own = cc

-- and the next request is none
pub nothing_sent : (c : Asking) → due_tags c ≡ [] → next_sent c ≡ c
nothing_sent c none =
    let both = both_empty (due_of c.demand) (due_of c.background) none in
    let first : first_due c.demand ≡ None = ap (λ tags. slice_get tags 0) both.0 in
    let own : first_due c.background ≡ None = ap (λ tags. slice_get tags 0) both.1 in
    let stays = slot_stays (first_due c.demand) c.demand first in
    ap (λ f. record c { demand = f; background = then_sent (first_due c.demand) c.background }) stays
    ∙ ap (λ f. record c { background = f }) (then_stays (first_due c.demand) c.background first own)

after_first : (tags : List ℕ) (c : Asking) → due_tags c ≡ tags → all_sent (next_sent c) ≡ all_sent c
after_first [] c is = ap all_sent (nothing_sent c is)
after_first (tag ∷ tags) c is =
    let left : due_tags (next_sent c) ≡ tags = all_left c ∙ ap (drop 1) is in
    ap (λ due. first_sent (length due) (next_sent c)) left ∙ sym (ap (λ due. first_sent (length due) c) is)

-- all are sent once all others are behind the first one
pub sent_next : (c : Asking) → all_sent (next_sent c) ≡ all_sent c
sent_next c = after_first (due_tags c) c refl

-- and so an event leaves none
pub event_left : (wire : Wire) (told : Option Item) (old new : Watched) (entry : Entry)
    → MonitorEvent wire told old entry new → due_tags new.asking ≡ []
event_left wire told old new entry one = ap due_tags one.sent ∙ none_left one.due

pub ruleset sendings = (sent_next, none_due_all_sent, none_left, event_left)
