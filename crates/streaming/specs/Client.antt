-- What the events of a run make of the client's asking.
use Rattle.std.specs.Prelude.{ℕ, zero, suc, ◌≡◌, ◌↔◌, ◌⊎◌, true, is_some, List, length, Option, Some, None}
use Rattle.aoe_net.specs.Wire.{Wire}
use Rattle.aoe_client.specs.declared.client.Heard.{Heard}
use Rattle.aoe_client.specs.declared.client.Heard.TheVariants.{Took}
use Rattle.aoe_client.specs.declared.client.Slot.TheVariants.{Demand}
use Rattle.aoe_client.specs.Fetching.{Fetching, asked_for}
use Rattle.aoe_client.specs.Asking.{Asking, both_ticked, done_in, due_tags, heard, is_awaited, next_sent, tags_in, with_slot}
use Rattle.aoe_client.specs.Messages.{Answers}
use Rattle.schedule_text.specs.declared.Event.{Event}
use Rattle.schedule_text.specs.declared.Event.TheVariants as event
use Rattle.streaming.specs.Network.{handed_to_client}

-- a slot in which a block was just asked: each of its tags, so many, is due
abbrev pub IsJustAsked : ℕ → Option Fetching → Type 0
IsJustAsked count None = ⊥
IsJustAsked count (Some f) = f ≡ asked_for count f.block f.lease

-- a block was asked in the slot Demand, which was free
pub record HasAsked (old new : Asking) : Type 0 where
  pub free : old.demand ≡ None
  pub asked : IsJustAsked (tags_in old.block) new.demand
  pub others : new ≡ with_slot Demand new.demand old

-- a block of which each tag is answered was taken from the slot Demand
pub record HasCollected (old new : Asking) : Type 0 where
  pub done : is_some (done_in old.demand) ≡ true
  pub freed : new ≡ with_slot Demand None old

-- what a turn makes of the client: nothing, or one of these
abbrev pub ClientTurned : Asking → Asking → Type 0
ClientTurned old new = (new ≡ old) ⊎ HasAsked old new ⊎ HasCollected old new

-- a frame is taken for a tag: it answers the tag, which is asked for and not answered yet
abbrev pub TakesFor : ℕ → List ℕ → Asking → Type 0
TakesFor tag frame c = Answers frame tag × (is_awaited tag c ≡ true)

-- a frame is taken, for some tag
abbrev pub TakesFrame : List ℕ → Asking → Type 0
TakesFrame frame c = (tag : ℕ) × TakesFor tag frame c

-- a frame comes: it is taken for the tag that it answers, and else nothing becomes of it
pub record Hears (frame : List ℕ) (old new : Asking) : Type 0 where
  pub what : Heard
  pub took : (tag : ℕ) → (what ≡ Took tag) ↔ TakesFor tag frame old
  pub after : new ≡ heard what old

-- a frame comes, or none does
abbrev pub HearsIfAny : Option (List ℕ) → Asking → Asking → Type 0
HearsIfAny None old new = new ≡ old
HearsIfAny (Some frame) old new = Hears frame old new

-- what an event makes of the client, before it sends what is due: a turn may ask for a block or take one that has come,
-- a tick makes it older, and a frame that the event hands over is heard
abbrev pub ActsOnClient : Event → Wire → Asking → Asking → Type 0
ActsOnClient event.Turn wire old new = ClientTurned old new
ActsOnClient event.Tick wire old new = new ≡ both_ticked old
ActsOnClient one wire old new = HearsIfAny (handed_to_client one wire) old new

-- the client once the first so many due tags are sent
abbrev pub first_sent : ℕ → Asking → Asking
first_sent zero c = c
first_sent (suc n) c = first_sent n (next_sent c)

-- the client once all that is due is sent
abbrev pub all_sent : Asking → Asking
all_sent c = first_sent (length (due_tags c)) c
