-- What the two lists of the network hold along a run, and which events are the network's.
use Rattle.std.specs.Prelude.{ℕ, ◌≡◌, Bool, true, false, All, List, Some}
use Rattle.aoe_net.specs.Wire.{Wire}
use Rattle.image_server.specs.Serving.{IsReply}
use Rattle.aoe_client.specs.Messages.{request_frame}
use Rattle.schedule_text.specs.declared.Event.{Event}
use Rattle.schedule_text.specs.declared.Event.TheVariants as event

-- an event of the network: a frame of it is delivered or lost, or a stray one comes
abbrev pub is_of_network : Event → Bool
is_of_network (event.Deliver way k keep) = true
is_of_network (event.Lose way k) = true
is_of_network (event.Stray way frame) = true
is_of_network other = false

-- each frame for the server is the request of some tag
abbrev pub HoldsRequests : Wire → Type 0
HoldsRequests wire = All (λ frame. (tag : ℕ) × (frame ≡ request_frame tag)) wire.to_server

-- each frame for the client is the server's reply to some frame, over an image of so many sectors
abbrev pub HoldsReplies : ℕ → List ℕ → Wire → Type 0
HoldsReplies sectors image wire =
    All (λ frame. (request : List ℕ) × IsReply sectors image request (Some frame)) wire.to_client
