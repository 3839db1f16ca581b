-- Which frames an event's items send.
use Rattle.std.proofs.Common.{ℕ, ◌≢◌, ◌++◌, ap, ◌∙◌, ◌≡◌, List, [], ◌∷◌, false, refl, append-nil}
use Rattle.std.specs.Prelude.{All}
use Rattle.std.proofs.lemmas.List.Elements.{All-head, All-tail}
use Rattle.aoe_net.specs.declared.way.Way.TheVariants.{ToServer}
use Rattle.aoe_net.specs.Wire.{Wire, sent}
use Rattle.aoe_client.specs.Messages.{request_frame}
use Rattle.plain_drive.specs.Physical.{Physical}
use Rattle.schedule_text.specs.declared.Item.{Item}
use Rattle.schedule_text.specs.declared.Item.TheVariants as item
use Rattle.plain_run.specs.Entry.{Entry, is_monitors}
use Rattle.plain_run.specs.Run.{DriveEvent}
use Rattle.plain_run.proofs.Alone.{event_alone}
use Rattle.streaming.specs.Network.{requests_in, requests_sent}

-- where no item is a monitor's, there is no request
none_asked : (items : List Item) → All (λ one. is_monitors one ≡ false) items → requests_in items ≡ []
none_asked [] alone = refl
none_asked (item.Asked tag ∷ items) alone =
    let its_own : is_monitors (item.Asked tag) ≡ false =
    All-head (λ one. is_monitors one ≡ false) (item.Asked tag) items alone in
    cc
none_asked (other ∷ items) alone = none_asked items (All-tail (λ one. is_monitors one ≡ false) other items alone)

pub drive_asks_none : (old new : Physical) (entry : Entry) → DriveEvent old entry new → requests_in entry.items ≡ []
drive_asks_none old new entry one = none_asked entry.items (event_alone old new entry one)

-- the requests of two lists, one behind the other
pub requests_behind : (items last : List Item) → requests_in (items ++ last) ≡ requests_in items ++ requests_in last
requests_behind [] last = refl
requests_behind (item.Asked tag ∷ items) last =
    ap (λ frames. request_frame tag ∷ frames) (requests_behind items last)
requests_behind (one ∷ items) last = requests_behind items last

-- an item more that asks is a request more, and any other is none
sent_behind : (frames : List (List ℕ)) (frame : List ℕ) (wire : Wire)
    → requests_sent (frames ++ frame ∷ []) wire ≡ sent ToServer frame (requests_sent frames wire)
sent_behind [] frame wire = refl
sent_behind (first ∷ frames) frame wire = sent_behind frames frame (sent ToServer first wire)

pub asked_joins : (items : List Item) (tag : ℕ) (wire : Wire)
    → requests_sent (requests_in (items ++ item.Asked tag ∷ [])) wire
    ≡ sent ToServer (request_frame tag) (requests_sent (requests_in items) wire)
asked_joins items tag wire =
    ap (λ frames. requests_sent frames wire) (requests_behind items (item.Asked tag ∷ []))
    ∙ sent_behind (requests_in items) (request_frame tag) wire

unasked : (one : Item) → ((tag : ℕ) → one ≢ item.Asked tag) → requests_in (one ∷ []) ≡ []
unasked (item.Asked tag) other = absurd (other tag refl)
unasked one other = refl

pub others_join : (items : List Item) (one : Item) → ((tag : ℕ) → one ≢ item.Asked tag)
    → requests_in (items ++ one ∷ []) ≡ requests_in items
others_join items one other =
    requests_behind items (one ∷ []) ∙ rw (unasked one other) (append-nil (requests_in items))
