-- When the image is looked at.
use Rattle.std.proofs.Common.{◌≡◌, ℕ, zero, suc, ◌<◌, List, Option, Some, None, Result, arith, refl, ap, ◌∙◌, subst}
use Rattle.bm_host.specs.Outside.{Outside}
use Rattle.bm_host.specs.declared.Role.TheVariants.{Image}
use Rattle.aoe_frame.specs.declared.message.Aoe.{Aoe}
use Rattle.aoe_frame.specs.declared.message.FrameFault.{FrameFault}
use Rattle.aoe_frame.specs.Reading.{IsReading}
use Rattle.aoe_frame.proofs.Readings.{one_reading}
use Rattle.image_server.specs.Reply.{sectors_sent}
use Rattle.image_server.specs.Serving.{LooksAtMost}
use Rattle.plain_run.specs.Entry.{Entry}
use Rattle.schedule_text.specs.declared.Event.{Event}
use Rattle.streaming.specs.Network.{IsServed, Serves, handed_to_server}
use Rattle.streaming.specs.World.{HandsSectors, Scene, WorldEvent}

-- where sectors go into a reply, the event hands a frame over that asks for them
hands_by : (one : Event) (scene : Scene) (told handed answer : Option (List ℕ)) (count : ℕ)
    → handed_to_server one scene.wire ≡ handed → Serves scene.image told handed answer count
    → 0 < count → HandsSectors one scene
hands_by one scene told None answer count given serves some = absurd (omega (serves.1, some, arith))
hands_by one scene told (Some frame) answer count given serves some = record {
  frame = frame;
  reading = serves.reading;
  handed = given;
  reads = serves.reads;
  some = subst (λ n. 0 < n) serves.counts some;
}

some_looked : (count : ℕ) (outside after : Outside) → LooksAtMost count outside after
    → outside.looked < after.looked → 0 < count
some_looked zero outside after looks rose = absurd (omega (looks.none refl, rose, arith))
some_looked (suc n) outside after looks rose = omega arith

pub looked_hands : (outside after : Outside) (old new : Scene) (entry : Entry)
    → WorldEvent outside after old entry new → outside.looked < after.looked → HandsSectors entry.event old
looked_hands outside after old new entry one rose =
    hands_by entry.event old (outside.told Image) (handed_to_server entry.event old.wire)
    one.scene.network.answer one.count refl one.scene.network.serves (some_looked one.count outside after one.looked rose)

counted : (sectors : ℕ) (told : Option (List ℕ)) (frame : List ℕ) (answer : Option (List ℕ)) (count : ℕ)
    (reading : Result Aoe FrameFault) → IsServed sectors told frame answer count → IsReading frame reading
    → count ≡ sectors_sent sectors reading
counted sectors told frame answer count reading served reads =
    served.counts ∙ ap (sectors_sent sectors) (one_reading frame served.reading reading served.reads reads)

pub looked_most : (outside after : Outside) (old new : Scene) (entry : Entry)
    → WorldEvent outside after old entry new → (frame : List ℕ) (reading : Result Aoe FrameFault)
    → handed_to_server entry.event old.wire ≡ Some frame → IsReading frame reading
    → LooksAtMost (sectors_sent old.image reading) outside after
looked_most outside after old new entry one frame reading handed reads =
    let served : IsServed old.image (outside.told Image) frame one.scene.network.answer one.count =
    subst (λ given. Serves old.image (outside.told Image) given one.scene.network.answer one.count) handed
    one.scene.network.serves in
    subst (λ n. LooksAtMost n outside after)
    (counted old.image (outside.told Image) frame one.scene.network.answer one.count reading served reads) one.looked
