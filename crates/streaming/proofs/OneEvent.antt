-- What an event leaves of the network.
use Rattle.std.proofs.Common.{◌≡◌, ℕ, List, [], ◌∷◌, Option, Some, None, refl, ap, ◌∙◌, subst}
use Rattle.std.specs.Prelude.{true, false, remove}
use Rattle.aoe_net.specs.declared.way.Way.{Way}
use Rattle.aoe_net.specs.declared.way.Way.TheVariants.{ToServer, ToClient}
use Rattle.aoe_net.specs.Wire.{Wire, going, queued, sent, without}
use Rattle.image_server.specs.Reply.{sectors_sent}
use Rattle.image_server.specs.Serving.{IsReply}
use Rattle.schedule_text.specs.declared.Event.{Event}
use Rattle.schedule_text.specs.declared.Event.TheVariants as event
use Rattle.plain_run.specs.Entry.{Entry}
use Rattle.streaming.specs.Network.{NetworkEvent, Serves, handed_to_server, reply_sent, requests_in, requests_sent, taken_out}
use Rattle.streaming.specs.Lists.{is_of_network}
use Rattle.streaming.proofs.Serving.{served_once, unserved}

-- requests join one list alone, and a reply the other
pub requests_client : (frames : List (List ℕ)) (wire : Wire) → (requests_sent frames wire).to_client ≡ wire.to_client
requests_client [] wire = refl
requests_client (frame ∷ frames) wire = requests_client frames (sent ToServer frame wire)

pub reply_server : (answer : Option (List ℕ)) (wire : Wire) → (reply_sent answer wire).to_server ≡ wire.to_server
reply_server None wire = refl
reply_server (Some frame) wire = refl

-- other events than the network's take nothing out, and hand nothing over
quiet_taken : (one : Event) (wire : Wire) → is_of_network one ≡ false → taken_out one wire ≡ wire
quiet_taken (event.Deliver way k keep) wire quiet = cc
quiet_taken (event.Lose way k) wire quiet = cc
quiet_taken other wire quiet = refl

quiet_handed : (one : Event) (wire : Wire) → is_of_network one ≡ false → handed_to_server one wire ≡ None
quiet_handed (event.Deliver way k keep) wire quiet = cc
quiet_handed (event.Stray way frame) wire quiet = cc
quiet_handed other wire quiet = refl

-- what is handed to the server takes no reply out
handed_client : (one : Event) (wire : Wire) (frame : List ℕ) → handed_to_server one wire ≡ Some frame
    → (taken_out one wire).to_client ≡ wire.to_client
handed_client (event.Deliver ToServer k true) wire frame handed = refl
handed_client (event.Deliver ToServer k false) wire frame handed = refl
handed_client (event.Deliver ToClient k keep) wire frame handed = cc
handed_client (event.Lose way k) wire frame handed = cc
handed_client other wire frame handed = refl

module _ {sectors : ℕ} {told : Option (List ℕ)} {old new : Wire} {entry : Entry} {count : ℕ}
    (one : NetworkEvent sectors told old entry new count) where
  -- without requests the event's reply is the last
  pub event_replied : requests_in entry.items ≡ []
      → new ≡ reply_sent one.answer (taken_out entry.event old)
  event_replied none =
      one.after ∙ ap (λ frames. requests_sent frames (reply_sent one.answer (taken_out entry.event old))) none

  pub event_uncounted : handed_to_server entry.event old ≡ None → count ≡ 0
  event_uncounted none = (unserved sectors told (handed_to_server entry.event old) one.answer count none one.serves).1

  -- and where the server is handed nothing, there is no reply
  pub event_unserved : requests_in entry.items ≡ [] → handed_to_server entry.event old ≡ None
      → new ≡ taken_out entry.event old
  event_unserved none unhanded =
      let silent = (unserved sectors told (handed_to_server entry.event old) one.answer count unhanded one.serves).0 in
      event_replied none ∙ ap (λ answer. reply_sent answer (taken_out entry.event old)) silent

  pub event_client : new.to_client ≡ (reply_sent one.answer (taken_out entry.event old)).to_client
  event_client =
      ap (λ wire. wire.to_client) one.after
      ∙ requests_client (requests_in entry.items) (reply_sent one.answer (taken_out entry.event old))

  pub event_server : requests_in entry.items ≡ [] → new.to_server ≡ (taken_out entry.event old).to_server
  event_server none =
      ap (λ wire. wire.to_server) (event_replied none) ∙ reply_server one.answer (taken_out entry.event old)

  pub quiet_stays : is_of_network entry.event ≡ false → requests_in entry.items ≡ [] → new ≡ old
  quiet_stays quiet none =
      event_unserved none (quiet_handed entry.event old quiet) ∙ quiet_taken entry.event old quiet

  pub quiet_uncounted : is_of_network entry.event ≡ false → count ≡ 0
  quiet_uncounted quiet = event_uncounted (quiet_handed entry.event old quiet)

  pub lost_leaves : (way : Way) (k : ℕ) → entry.event ≡ event.Lose way k → requests_in entry.items ≡ []
      → new ≡ without way k old
  lost_leaves way k is none =
      event_unserved none (ap (λ e. handed_to_server e old) is) ∙ ap (λ e. taken_out e old) is

  pub lost_uncounted : (way : Way) (k : ℕ) → entry.event ≡ event.Lose way k → count ≡ 0
  lost_uncounted way k is = event_uncounted (ap (λ e. handed_to_server e old) is)

  pub delivered_leaves : (way : Way) (k : ℕ) → entry.event ≡ event.Deliver way k false → requests_in entry.items ≡ []
      → going way new ≡ remove (going way old) k
  delivered_leaves ToServer k is none = event_server none ∙ ap (λ e. (taken_out e old).to_server) is
  delivered_leaves ToClient k is none =
      ap (λ wire. wire.to_client) (event_unserved none (ap (λ e. handed_to_server e old) is))
      ∙ ap (λ e. (taken_out e old).to_client) is

  pub kept_stays : (way : Way) (k : ℕ) → entry.event ≡ event.Deliver way k true → requests_in entry.items ≡ []
      → going way new ≡ going way old
  kept_stays ToServer k is none = event_server none ∙ ap (λ e. (taken_out e old).to_server) is
  kept_stays ToClient k is none =
      ap (λ wire. wire.to_client) (event_unserved none (ap (λ e. handed_to_server e old) is))
      ∙ ap (λ e. (taken_out e old).to_client) is

  pub stray_client : (frame : List ℕ) → entry.event ≡ event.Stray ToClient frame → requests_in entry.items ≡ []
      → new ≡ old
  stray_client frame is none =
      event_unserved none (ap (λ e. handed_to_server e old) is) ∙ ap (λ e. taken_out e old) is

  pub stray_uncounted : (frame : List ℕ) → entry.event ≡ event.Stray ToClient frame → count ≡ 0
  stray_uncounted frame is = event_uncounted (ap (λ e. handed_to_server e old) is)

  pub stray_server : (way : Way) (frame : List ℕ) → entry.event ≡ event.Stray way frame
      → requests_in entry.items ≡ [] → new.to_server ≡ old.to_server
  stray_server way frame is none = event_server none ∙ ap (λ e. (taken_out e old).to_server) is

-- the server's reply to what it is handed is the one that joins
module _ {sectors : ℕ} {image : List ℕ} {old new : Wire} {entry : Entry} {count : ℕ}
    (one : NetworkEvent sectors (Some image) old entry new count) where
  answer_is : (frame : List ℕ) (answer : Option (List ℕ)) → handed_to_server entry.event old ≡ Some frame
      → IsReply sectors image frame answer → one.answer ≡ answer
  answer_is frame answer handed replies =
      let serves : Serves sectors (Some image) (Some frame) one.answer count =
      subst (λ given. Serves sectors (Some image) given one.answer count) handed one.serves in
      let also : Serves sectors (Some image) (Some frame) answer (sectors_sent sectors replies.reading) =
      record { reading = replies.reading; reads = replies.reads; replies = replies.written; counts = refl } in
      (served_once sectors image (Some frame) one.answer answer count (sectors_sent sectors replies.reading)
      serves also).0

  pub reply_joins : (frame answer : List ℕ) → handed_to_server entry.event old ≡ Some frame
      → IsReply sectors image frame (Some answer) → new.to_client ≡ queued answer old.to_client
  reply_joins frame answer handed replies =
      event_client one
      ∙ ap (λ given. (reply_sent given (taken_out entry.event old)).to_client)
      (answer_is frame (Some answer) handed replies)
      ∙ ap (queued answer) (handed_client entry.event old frame handed)

  pub silence_stays : (frame : List ℕ) → handed_to_server entry.event old ≡ Some frame
      → IsReply sectors image frame None → new.to_client ≡ old.to_client
  silence_stays frame handed replies =
      event_client one
      ∙ ap (λ given. (reply_sent given (taken_out entry.event old)).to_client)
      (answer_is frame None handed replies)
      ∙ handed_client entry.event old frame handed
