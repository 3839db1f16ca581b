-- What holds along a course of the network.
use Rattle.std.proofs.Common.{◌≡◌, ℕ, ◌*◌, ◌≤◌, List, [], ◌∷◌, length, Option, Some, arith, sym, ap, ◌∙◌, subst}
use Rattle.std.proofs.lemmas.List.Elements.{All-nil}
use Rattle.aoe_net.specs.Wire.{FitsRings, Wire, nothing_sent}
use Rattle.image_server.specs.declared.reply.TheConstants.{MOST_SECTORS}
use Rattle.plain_run.specs.Entry.{Entry}
use Rattle.streaming.specs.Network.{IsCourse, NetworkEvent, handed_to_server, reply_sent, requests_in, requests_sent, taken_out}
use Rattle.streaming.specs.Lists.{HoldsReplies, HoldsRequests}
use Rattle.streaming.proofs.Serving.{served_most, served_once}
use Rattle.streaming.proofs.Lists.{event_fits, event_replies, event_requests, nothing_fits}

-- what holds of an empty network, and is kept by each event, holds along a course
course_keeps : (sectors : ℕ) (told : Option (List ℕ)) (P : Wire → Type 0) → P nothing_sent
    → ((old new : Wire) (entry : Entry) (count : ℕ) → NetworkEvent sectors told old entry new count → P old → P new)
    → (entries : List Entry) (wire : Wire) (count : ℕ) → IsCourse sectors told entries wire count → P wire
course_keeps sectors told P first kept [] wire count course = rw course.0 first
course_keeps sectors told P first kept (entry ∷ earlier) wire count course =
    kept course.0 wire entry course.2 course.4
    (course_keeps sectors told P first kept earlier course.0 course.1 course.3)

pub course_fits : (sectors : ℕ) (told : Option (List ℕ)) (entries : List Entry) (wire : Wire) (count : ℕ)
    → IsCourse sectors told entries wire count → FitsRings wire
course_fits sectors told = course_keeps sectors told FitsRings nothing_fits (event_fits sectors told)

pub course_requests : (sectors : ℕ) (told : Option (List ℕ)) (entries : List Entry) (wire : Wire) (count : ℕ)
    → IsCourse sectors told entries wire count → HoldsRequests wire
course_requests sectors told =
    course_keeps sectors told HoldsRequests (All-nil _) (event_requests sectors told)

pub course_replies : (sectors : ℕ) (image : List ℕ) (entries : List Entry) (wire : Wire) (count : ℕ)
    → IsCourse sectors (Some image) entries wire count → HoldsReplies sectors image wire
course_replies sectors image =
    course_keeps sectors (Some image) (HoldsReplies sectors image) (All-nil _) (event_replies sectors image)

-- over a told image each event leads to one network, with one count
event_once : (sectors : ℕ) (image : List ℕ) (old one other : Wire) (entry : Entry) (m n : ℕ)
    → NetworkEvent sectors (Some image) old entry one m → NetworkEvent sectors (Some image) old entry other n
    → (one ≡ other) × (m ≡ n)
event_once sectors image old one other entry m n event also =
    let same = served_once sectors image (handed_to_server entry.event old) event.answer also.answer m n
    event.serves also.serves in
    let sends : Option (List ℕ) → Wire = λ answer. requests_sent (requests_in entry.items)
    (reply_sent answer (taken_out entry.event old)) in
    (event.after ∙ ap sends same.0 ∙ sym also.after, same.1)

pub course_once : (sectors : ℕ) (image : List ℕ) (entries : List Entry) (one other : Wire) (m n : ℕ)
    → IsCourse sectors (Some image) entries one m → IsCourse sectors (Some image) entries other n
    → (one ≡ other) × (m ≡ n)
course_once sectors image [] one other m n course also = (course.0 ∙ sym also.0, course.1 ∙ sym also.1)
course_once sectors image (entry ∷ earlier) one other m n course also =
    let before = course_once sectors image earlier course.0 also.0 course.1 also.1 course.3 also.3 in
    let moved : NetworkEvent sectors (Some image) also.0 entry one course.2 =
    subst (λ wire. NetworkEvent sectors (Some image) wire entry one course.2) before.0 course.4 in
    let after = event_once sectors image also.0 one other entry course.2 also.2 moved also.4 in
    (after.0, omega (course.5, also.5, before.1, after.1, arith))

-- no event has more sectors go into replies than the server sends in one
pub course_most : (sectors : ℕ) (told : Option (List ℕ)) (entries : List Entry) (wire : Wire) (count : ℕ)
    → IsCourse sectors told entries wire count → count ≤ MOST_SECTORS * length entries
course_most sectors told [] wire count course = omega (course.1, arith)
course_most sectors told (entry ∷ earlier) wire count course =
    let before = course_most sectors told earlier course.0 course.1 course.3 in
    let more = served_most sectors told (handed_to_server entry.event course.0) course.4.answer course.2
    course.4.serves in
    omega (course.5, before, more, arith)
