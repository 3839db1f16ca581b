-- What the client asks for, and what each call does to it.
use Rattle.std.specs.Prelude.{ℕ, ◌≡◌, ◌≤◌, ◌/◌, ◌*◌, ◌||◌, Bool, false, List, [], ◌∷◌, ◌++◌, length, slice_get, option_map, Option, Some, None, if◌then◌else◌}
use Rattle.std.specs.List.{list_all}
use Rattle.mon_pool.specs.Region.{Held, Region}
use Rattle.aoe_client.specs.declared.client.Slot.{Slot}
use Rattle.aoe_client.specs.declared.client.Slot.TheVariants.{Demand, Background}
use Rattle.aoe_client.specs.declared.client.Heard.{Heard}
use Rattle.aoe_client.specs.declared.client.Heard.TheVariants.{Took, Ignored}
use Rattle.aoe_client.specs.declared.tags.TheConstants.{PART_BYTES, PART_SECTORS}
use Rattle.aoe_client.specs.Fetching.{Fetching, due_of, is_answered, is_open, state_of, tag_answered, tag_filled, tag_sent, ticked}

-- the sectors of a block, and what each slot asks for (own)
pub record Asking : Type 0 where
  pub block : ℕ
  pub demand : Option Fetching
  pub background : Option Fetching

-- a client that asks for nothing
abbrev pub nothing_asked : ℕ → Asking
nothing_asked block = record { block = block; demand = None; background = None }

-- how many tags a block has
abbrev pub tags_in : ℕ → ℕ
tags_in block = block / PART_SECTORS

-- what is asked for has the tags of a block
abbrev pub HasTags : ℕ → Option Fetching → Type 0
HasTags block None = Unit {0}
HasTags block (Some f) = length f.tags ≡ tags_in block

-- a pool's slots have room for what is asked for
abbrev pub HasRoom : ℕ → Option Fetching → Type 0
HasRoom room None = Unit {0}
HasRoom room (Some f) = length f.tags * PART_BYTES ≤ room

-- what a slot asks for
abbrev pub in_slot : Slot → Asking → Option Fetching
in_slot Demand c = c.demand
in_slot Background c = c.background

-- a client of which this slot asks for this, and all else is as it was
abbrev pub with_slot : Slot → Option Fetching → Asking → Asking
with_slot Demand f c = record c { demand = f }
with_slot Background f c = record c { background = f }

-- the due tags in the order in which they are sent: Demand before Background, each in rising order (own)
abbrev pub due_tags : Asking → List ℕ
due_tags c = due_of c.demand ++ due_of c.background

-- the first due tag of a slot
abbrev pub first_due : Option Fetching → Option ℕ
first_due f = slice_get (due_of f) 0

-- a slot once its first due tag, where there is one, is sent
abbrev pub slot_sent : Option Fetching → Option Fetching
slot_sent f = option_map (tag_sent (first_due f)) f

-- the slot Background once the next tag is sent: its own first one, where none of Demand's is due
abbrev pub then_sent : Option ℕ → Option Fetching → Option Fetching
then_sent None f = slot_sent f
then_sent (Some tag) f = f

-- the client once the first due tag, where there is one, is sent
abbrev pub next_sent : Asking → Asking
next_sent c = record c {
  demand = slot_sent c.demand;
  background = then_sent (first_due c.demand) c.background;
}

-- a tick of both slots
abbrev pub both_ticked : Asking → Asking
both_ticked c = record c {
  demand = option_map ticked c.demand;
  background = option_map ticked c.background;
}

-- whether a tag is unanswered or due in a slot
abbrev pub is_open_in : ℕ → Option Fetching → Bool
is_open_in tag None = false
is_open_in tag (Some f) = is_open (state_of tag f)

-- whether a tag is unanswered or due in one of the slots
abbrev pub is_awaited : ℕ → Asking → Bool
is_awaited tag c = is_open_in tag c.demand || is_open_in tag c.background

-- a slot once a frame was heard: a tag that was taken is answered, where it was unanswered or due in the slot
abbrev pub slot_heard : Heard → Option Fetching → Option Fetching
slot_heard Ignored f = f
slot_heard (Took tag) f = option_map (tag_answered tag) f

-- the client once a frame was heard
abbrev pub heard : Heard → Asking → Asking
heard what c = record c {
  demand = slot_heard what c.demand;
  background = slot_heard what c.background;
}

-- a pool once a tag's two sectors are in a slot's buffer, where the tag was unanswered or due in the slot
abbrev pub slot_filled : ℕ → List ℕ → Option Fetching → Region → Region
slot_filled tag sectors None pool = pool
slot_filled tag sectors (Some f) pool = tag_filled tag sectors f pool

-- a pool once a frame was heard: the two sectors of a tag that was taken are in the buffer of each slot in which it was
-- unanswered or due
abbrev pub buffers_heard : Heard → List ℕ → Asking → Region → Region
buffers_heard Ignored sectors c pool = pool
buffers_heard (Took tag) sectors c pool =
    slot_filled tag sectors c.background (slot_filled tag sectors c.demand pool)

-- what is handed over of a slot: the number and the lease, where every tag is answered
abbrev pub done_in : Option Fetching → Option (ℕ × Held)
done_in None = None
done_in (Some f) = if list_all is_answered f.tags then Some (f.block, f.lease) else None

-- the lease of what is asked for
abbrev pub lease_in : Option Fetching → List Held
lease_in None = []
lease_in (Some f) = f.lease ∷ []

-- the leases that the client holds, Demand's first
abbrev pub leases_of : Asking → List Held
leases_of c = lease_in c.demand ++ lease_in c.background
