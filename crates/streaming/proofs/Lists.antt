-- What the lists hold, and how much.
use Rattle.std.proofs.Common.{◌≡◌, ℕ, suc, ◌≤◌, List, [], ◌∷◌, ◌++◌, length, take, drop, Option, Some, None, arith, refl, length-append}
use Rattle.std.specs.Prelude.{All, Bool, true, false, ◌==◌, if◌then◌else◌, remove}
use Rattle.std.proofs.lemmas.Bool.{eqb-false}
use Rattle.std.proofs.lemmas.List.{length-take, length-drop}
use Rattle.std.proofs.lemmas.List.Elements.{All-append, All-drop, All-push, All-take}
use Rattle.aoe_net.specs.declared.way.Way.{Way}
use Rattle.aoe_net.specs.declared.way.Way.TheVariants.{ToServer, ToClient}
use Rattle.aoe_net.specs.declared.ring.TheConstants.{MOST_FRAMES}
use Rattle.aoe_net.specs.Wire.{FitsRings, Wire, nothing_sent, queued, sent, without}
use Rattle.image_server.specs.Serving.{IsReply}
use Rattle.aoe_client.specs.Messages.{request_frame}
use Rattle.schedule_text.specs.declared.Event.{Event}
use Rattle.schedule_text.specs.declared.Event.TheVariants as event
use Rattle.schedule_text.specs.declared.Item.{Item}
use Rattle.schedule_text.specs.declared.Item.TheVariants as item
use Rattle.plain_run.specs.Entry.{Entry}
use Rattle.streaming.specs.Network.{NetworkEvent, Serves, handed_to_server, reply_sent, requests_in, requests_sent, taken_out}
use Rattle.streaming.specs.Lists.{HoldsReplies, HoldsRequests}
use Rattle.streaming.proofs.OneEvent.{event_client, reply_server}
use Rattle.streaming.proofs.Serving.{served_reply}

-- room: a frame that is queued displaces one where there is none
queued_fits : (frame : List ℕ) (frames : List (List ℕ)) → length frames ≤ MOST_FRAMES
    → length (queued frame frames) ≤ MOST_FRAMES
queued_fits frame frames fits = by_room (length frames == MOST_FRAMES) refl
  where
    by_room : (full : Bool) → (length frames == MOST_FRAMES) ≡ full
        → length ((if full then drop 1 frames else frames) ++ frame ∷ []) ≤ MOST_FRAMES
    by_room true is =
        let joined = length-append (drop 1 frames) (frame ∷ []) in
        let dropped = length-drop 1 frames in
        omega arith
    by_room false is =
        let joined = length-append frames (frame ∷ []) in
        let other = eqb-false (length frames) MOST_FRAMES is in
        omega arith

remove_fits : (frames : List (List ℕ)) (k : ℕ) → length frames ≤ MOST_FRAMES → length (remove frames k) ≤ MOST_FRAMES
remove_fits frames k fits =
    let joined = length-append (take k frames) (drop (suc k) frames) in
    let front = length-take k frames in
    let rest = length-drop (suc k) frames in
    omega arith

sent_fits : (way : Way) (frame : List ℕ) (wire : Wire) → FitsRings wire → FitsRings (sent way frame wire)
sent_fits ToServer frame wire fits =
    record { to_server = queued_fits frame wire.to_server fits.to_server; to_client = fits.to_client }
sent_fits ToClient frame wire fits =
    record { to_server = fits.to_server; to_client = queued_fits frame wire.to_client fits.to_client }

without_fits : (way : Way) (k : ℕ) (wire : Wire) → FitsRings wire → FitsRings (without way k wire)
without_fits ToServer k wire fits =
    record { to_server = remove_fits wire.to_server k fits.to_server; to_client = fits.to_client }
without_fits ToClient k wire fits =
    record { to_server = fits.to_server; to_client = remove_fits wire.to_client k fits.to_client }

taken_fits : (one : Event) (wire : Wire) → FitsRings wire → FitsRings (taken_out one wire)
taken_fits (event.Deliver way k true) wire fits = fits
taken_fits (event.Deliver way k false) wire fits = without_fits way k wire fits
taken_fits (event.Lose way k) wire fits = without_fits way k wire fits
taken_fits other wire fits = fits

reply_fits : (answer : Option (List ℕ)) (wire : Wire) → FitsRings wire → FitsRings (reply_sent answer wire)
reply_fits None wire fits = fits
reply_fits (Some frame) wire fits = sent_fits ToClient frame wire fits

requests_fit : (frames : List (List ℕ)) (wire : Wire) → FitsRings wire → FitsRings (requests_sent frames wire)
requests_fit [] wire fits = fits
requests_fit (frame ∷ frames) wire fits =
    requests_fit frames (sent ToServer frame wire) (sent_fits ToServer frame wire fits)

pub event_fits : (sectors : ℕ) (told : Option (List ℕ)) (old new : Wire) (entry : Entry) (count : ℕ)
    → NetworkEvent sectors told old entry new count → FitsRings old → FitsRings new
event_fits sectors told old new entry count one fits =
    rw one.after (requests_fit (requests_in entry.items) _
    (reply_fits one.answer _ (taken_fits entry.event old fits)))

pub nothing_fits : FitsRings nothing_sent
nothing_fits = record { to_server = omega arith; to_client = omega arith }

-- what holds of each frame of a list holds of each once one is queued of which it holds, or one is removed
module _ (P : List ℕ → Type 0) where
  queued_all : (frame : List ℕ) (frames : List (List ℕ)) → All P frames → P frame → All P (queued frame frames)
  queued_all frame frames all this = by_room (length frames == MOST_FRAMES)
    where
      by_room : (full : Bool) → All P ((if full then drop 1 frames else frames) ++ frame ∷ [])
      by_room true = All-push P (drop 1 frames) frame (All-drop P 1 frames all) this
      by_room false = All-push P frames frame all this

  remove_all : (frames : List (List ℕ)) (k : ℕ) → All P frames → All P (remove frames k)
  remove_all frames k all =
      All-append P (take k frames) (drop (suc k) frames) (All-take P k frames all) (All-drop P (suc k) frames all)

  taken_server : (one : Event) (wire : Wire) → All P wire.to_server → All P (taken_out one wire).to_server
  taken_server (event.Deliver way k true) wire all = all
  taken_server (event.Deliver ToServer k false) wire all = remove_all wire.to_server k all
  taken_server (event.Deliver ToClient k false) wire all = all
  taken_server (event.Lose ToServer k) wire all = remove_all wire.to_server k all
  taken_server (event.Lose ToClient k) wire all = all
  taken_server other wire all = all

  taken_client : (one : Event) (wire : Wire) → All P wire.to_client → All P (taken_out one wire).to_client
  taken_client (event.Deliver way k true) wire all = all
  taken_client (event.Deliver ToServer k false) wire all = all
  taken_client (event.Deliver ToClient k false) wire all = remove_all wire.to_client k all
  taken_client (event.Lose ToServer k) wire all = all
  taken_client (event.Lose ToClient k) wire all = remove_all wire.to_client k all
  taken_client other wire all = all

-- requests
abbrev IsRequest : List ℕ → Type 0
IsRequest frame = (tag : ℕ) × (frame ≡ request_frame tag)

requests_hold : (items : List Item) (wire : Wire) → All IsRequest wire.to_server
    → All IsRequest (requests_sent (requests_in items) wire).to_server
requests_hold [] wire all = all
requests_hold (item.Asked tag ∷ items) wire all =
    requests_hold items (sent ToServer (request_frame tag) wire)
    (queued_all IsRequest (request_frame tag) wire.to_server all (tag, refl))
requests_hold (other ∷ items) wire all = requests_hold items wire all

pub event_requests : (sectors : ℕ) (told : Option (List ℕ)) (old new : Wire) (entry : Entry) (count : ℕ)
    → NetworkEvent sectors told old entry new count → HoldsRequests old → HoldsRequests new
event_requests sectors told old new entry count one all =
    let taken = taken_out entry.event old in
    let replied = reply_sent one.answer taken in
    let held : All IsRequest replied.to_server =
    rw (reply_server one.answer taken) (taken_server IsRequest entry.event old all) in
    rw one.after (requests_hold entry.items replied held)

-- replies
module _ (sectors : ℕ) (image : List ℕ) where
  abbrev IsAReply : List ℕ → Type 0
  IsAReply frame = (request : List ℕ) × IsReply sectors image request (Some frame)

  reply_holds : (handed answer : Option (List ℕ)) (count : ℕ) (wire : Wire)
      → Serves sectors (Some image) handed answer count
      → All IsAReply wire.to_client → All IsAReply (reply_sent answer wire).to_client
  reply_holds handed None count wire serves all = all
  reply_holds None (Some frame) count wire serves all = let none = serves.0 in cc
  reply_holds (Some request) (Some frame) count wire serves all =
      queued_all IsAReply frame wire.to_client all
      (request, served_reply sectors image request (Some frame) count serves)

  pub event_replies : (old new : Wire) (entry : Entry) (count : ℕ)
      → NetworkEvent sectors (Some image) old entry new count
      → HoldsReplies sectors image old → HoldsReplies sectors image new
  event_replies old new entry count one all =
      rw (event_client one) (reply_holds (handed_to_server entry.event old) one.answer count
      (taken_out entry.event old) one.serves (taken_client IsAReply entry.event old all))
