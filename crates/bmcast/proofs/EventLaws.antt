-- What an event of the world has looked at.
use Rattle.std.proofs.Common.{refl, subst, true, ◌≡◌}
use Rattle.bm_host.specs.declared.Role.TheVariants.{Image}
use Rattle.bm_host.specs.Outside.{Outside}
use Rattle.block_writes.specs.Kept.{KeepsLooked}
use Rattle.plain_run.specs.Entry.{Entry}
use Rattle.streaming.specs.Network.{Serves, handed_to_server}
use Rattle.streaming.specs.World.{HandsSectors, Scene, WorldEvent}
use Rattle.aoe_net.specs.declared.way.Way.TheVariants.{ToServer}
use Rattle.schedule_text.specs.declared.Event.{Event}
use Rattle.schedule_text.specs.declared.Event.TheVariants as event
use Rattle.std.proofs.lemmas.Option.{none-some}
use Rattle.bmcast.specs.Known.{reaches_server}
use Rattle.streaming.proofs.Empty.{serves_empty}

-- sectors go into a reply where the server is handed a frame
pub hands_reaches : (one : Event) (scene : Scene) → HandsSectors one scene → reaches_server one ≡ true
hands_reaches (event.Deliver ToServer k keep) scene hands = refl
hands_reaches (event.Stray ToServer frame) scene hands = refl
hands_reaches other scene hands = absurd (none-some hands.frame hands.handed)

-- nothing of an empty image is looked at
pub empty_unlooked : (a d : Outside) (old new : Scene) (entry : Entry) → old.image ≡ 0 → WorldEvent a d old entry new
    → KeepsLooked a d
empty_unlooked a d old new entry empty event =
    let network = event.scene.network in
    let handed = handed_to_server entry.event old.wire in
    event.looked.none (serves_empty (a.told Image) handed network.answer event.count
    (subst (λ n. Serves n (a.told Image) handed network.answer event.count) empty network.serves))
