-- What an event does to the network, and what the server puts of the image into its replies. Lists of entries have the
-- newest first.
use Rattle.std.specs.Prelude.{ℕ, ◌≡◌, ◌+◌, List, [], ◌∷◌, slice_get, Option, Some, None, Result, option_map, if◌then◌else◌}
use Rattle.aoe_frame.specs.declared.message.Aoe.{Aoe}
use Rattle.aoe_frame.specs.declared.message.FrameFault.{FrameFault}
use Rattle.aoe_frame.specs.Layout.{frame_of}
use Rattle.aoe_frame.specs.Reading.{IsReading}
use Rattle.aoe_net.specs.declared.way.Way.TheVariants.{ToServer, ToClient}
use Rattle.aoe_net.specs.Wire.{Wire, nothing_sent, sent, without}
use Rattle.image_server.specs.Reply.{reply, sectors_sent}
use Rattle.image_server.specs.Serving.{OverImage}
use Rattle.aoe_client.specs.Messages.{request_frame}
use Rattle.schedule_text.specs.declared.Event.{Event}
use Rattle.schedule_text.specs.declared.Event.TheVariants as event
use Rattle.schedule_text.specs.declared.Item.{Item}
use Rattle.schedule_text.specs.declared.Item.TheVariants as item
use Rattle.plain_run.specs.Entry.{Entry}

-- the requests of an event's items, in their order: the frame of each tag that was asked
abbrev pub requests_in : List Item → List (List ℕ)
requests_in [] = []
requests_in (item.Asked tag ∷ items) = request_frame tag ∷ requests_in items
requests_in (other ∷ items) = requests_in items

-- frames sent to the server, one after the other
abbrev pub requests_sent : List (List ℕ) → Wire → Wire
requests_sent [] wire = wire
requests_sent (frame ∷ frames) wire = requests_sent frames (sent ToServer frame wire)

-- a reply sent to the client, where there is one
abbrev pub reply_sent : Option (List ℕ) → Wire → Wire
reply_sent None wire = wire
reply_sent (Some frame) wire = sent ToClient frame wire

-- the network without the frame that an event takes out of it: one that is delivered, unless it is kept, or one that is
-- lost (own)
abbrev pub taken_out : Event → Wire → Wire
taken_out (event.Deliver way k keep) wire = if keep then wire else without way k wire
taken_out (event.Lose way k) wire = without way k wire
taken_out other wire = wire

-- the frame that an event hands to the server: a request of the network, or a stray one (own)
abbrev pub handed_to_server : Event → Wire → Option (List ℕ)
handed_to_server (event.Deliver ToServer k keep) wire = slice_get wire.to_server k
handed_to_server (event.Stray ToServer frame) wire = Some frame
handed_to_server other wire = None

-- the frame that an event hands to the client: a reply of the network, or a stray one (own)
abbrev pub handed_to_client : Event → Wire → Option (List ℕ)
handed_to_client (event.Deliver ToClient k keep) wire = slice_get wire.to_client k
handed_to_client (event.Stray ToClient frame) wire = Some frame
handed_to_client other wire = None

-- the server's reply to a frame over an image of so many sectors, where it is told, and how many of these go into it
pub record IsServed (sectors : ℕ) (told : Option (List ℕ)) (frame : List ℕ)
    (answer : Option (List ℕ)) (count : ℕ) : Type 0 where
  pub reading : Result Aoe FrameFault
  pub reads : IsReading frame reading
  pub replies : OverImage sectors told
      (λ image. answer ≡ option_map frame_of (reply sectors image reading))
  pub counts : count ≡ sectors_sent sectors reading

-- the same of the frame that it is handed; to none there is no reply
abbrev pub Serves : ℕ → Option (List ℕ) → Option (List ℕ) → Option (List ℕ) → ℕ → Type 0
Serves sectors told None answer count = (answer ≡ None) × (count ≡ 0)
Serves sectors told (Some frame) answer count = IsServed sectors told frame answer count

-- one event of the network, of which the server has an image of so many sectors:
pub record NetworkEvent (sectors : ℕ) (told : Option (List ℕ)) (old : Wire) (entry : Entry)
    (new : Wire) (count : ℕ) : Type 0 where
  -- the frame that the event hands to the server is served, and so many sectors of the image go into its reply
  pub answer : Option (List ℕ)
  pub serves : Serves sectors told (handed_to_server entry.event old) answer count
  -- what the event takes out leaves the network, the reply joins the replies, and then the requests of its items
  -- join the requests
  pub after : new ≡ requests_sent (requests_in entry.items)
      (reply_sent answer (taken_out entry.event old))

-- the entries lead an empty network to this one, event by event, and so many sectors of the image went into replies
abbrev pub IsCourse : ℕ → Option (List ℕ) → List Entry → Wire → ℕ → Type 0
IsCourse sectors told [] wire count = (wire ≡ nothing_sent) × (count ≡ 0)
IsCourse sectors told (entry ∷ earlier) wire count = (before : Wire) × (were more : ℕ)
    × IsCourse sectors told earlier before were
    × NetworkEvent sectors told before entry wire more × (count ≡ were + more)
