-- Of an empty image no sector goes into a reply.
use Rattle.std.proofs.Common.{◌≡◌, ℕ, List, [], ◌∷◌, Option, Some, None, Result, Ok, Err, arith, refl, sym, ◌∙◌, subst}
use Rattle.std.specs.Prelude.{Bool, true, false, if◌then◌else◌}
use Rattle.std.proofs.lemmas.Bool.Decides.{nat_tests}
use Rattle.aoe_frame.specs.declared.message.AtaPart.{AtaPart}
use Rattle.aoe_frame.specs.declared.message.Argument.{Argument}
use Rattle.aoe_frame.specs.declared.message.Argument.TheVariants.{Ata, Config, Other}
use Rattle.aoe_frame.specs.declared.message.Aoe.{Aoe}
use Rattle.aoe_frame.specs.declared.message.FrameFault.{FrameFault}
use Rattle.aoe_frame.specs.declared.message.FrameFault.TheVariants.{Short, NotAoe, Version}
use Rattle.aoe_net.specs.Wire.{Wire}
use Rattle.image_server.specs.Request.{asked_in, is_heard}
use Rattle.image_server.specs.Reply.{sectors_answered, sectors_replied, sectors_sent}
use Rattle.schedule_text.specs.declared.Event.{Event}
use Rattle.plain_run.specs.Entry.{Entry}
use Rattle.streaming.specs.Network.{IsCourse, Serves, handed_to_server}
use Rattle.streaming.specs.World.{HandsSectors, Scene}

-- a read of one sector or two reaches past the end of no sectors
part_empty : (a : AtaPart) → sectors_answered (asked_in 0 a) a.count ≡ 0
part_empty a = grind (arith, nat_tests)

argument_empty : (a : Argument) → sectors_replied 0 a ≡ 0
argument_empty (Ata a) = part_empty a
argument_empty (Config c) = refl
argument_empty Other = refl

heard_empty : (heard : Bool) (a : Argument) → (if heard then sectors_replied 0 a else 0) ≡ 0
heard_empty true a = argument_empty a
heard_empty false a = refl

-- no sector goes into the reply to what a frame was read as
pub sent_empty : (reading : Result Aoe FrameFault) → sectors_sent 0 reading ≡ 0
sent_empty (Ok m) = heard_empty (is_heard m.header) m.argument
sent_empty (Err Short) = refl
sent_empty (Err NotAoe) = refl
sent_empty (Err (Version h)) = refl

-- nor into the reply to what the server is handed
pub serves_empty : (told handed answer : Option (List ℕ)) (count : ℕ) → Serves 0 told handed answer count → count ≡ 0
serves_empty told None answer count served = served.1
serves_empty told (Some frame) answer count served = served.counts ∙ sent_empty served.reading

pub course_empty : (told : Option (List ℕ)) (entries : List Entry) (wire : Wire) (count : ℕ)
    → IsCourse 0 told entries wire count → count ≡ 0
course_empty told [] wire count course = course.1
course_empty told (entry ∷ earlier) wire count course =
    let before = course.0 in
    let more = course.2 in
    let none : course.1 ≡ 0 = course_empty told earlier before course.1 course.3 in
    let event = course.4 in
    let served : more ≡ 0 =
    serves_empty told (handed_to_server entry.event before) event.answer more event.serves in
    course.5 ∙ rw (none, served) refl

pub hands_empty : (one : Event) (scene : Scene) → scene.image ≡ 0 → ¬ HandsSectors one scene
hands_empty one scene empty hands =
    let none : sectors_sent scene.image hands.reading ≡ 0 =
    subst (λ n. sectors_sent n hands.reading ≡ 0) (sym empty) (sent_empty hands.reading) in
    absurd (omega (hands.some, none, arith))
