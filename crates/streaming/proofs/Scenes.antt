-- What holds along a run of a scene.
use Rattle.std.proofs.Common.{◌≡◌, ℕ, List, [], ◌∷◌, Option, Some, None, refl, sym, ap, ◌∙◌, subst}
use Rattle.aoe_net.specs.Wire.{Wire, nothing_sent}
use Rattle.plain_drive.specs.Physical.{Physical}
use Rattle.plain_run.specs.Entry.{Entry}
use Rattle.plain_run.specs.Run.{DriveEvent, IsDriveRun}
use Rattle.streaming.specs.Network.{IsCourse, NetworkEvent}
use Rattle.streaming.specs.Monitor.{Watched}
use Rattle.streaming.specs.World.{IsActed, IsSceneRun, Scene}

-- its image stays
pub scene_image : (told : Option (List ℕ)) (start now : Scene) (entries : List Entry) (count : ℕ)
    → IsSceneRun told start entries now count → now.image ≡ start.image
scene_image told start now [] count run = ap (λ (scene : Scene). scene.image) run.0
scene_image told start now (entry ∷ earlier) count run =
    run.4.image ∙ scene_image told start run.0 earlier run.1 run.3

-- the network goes its course over it
pub scene_course : (told : Option (List ℕ)) (start now : Scene) (entries : List Entry) (count : ℕ)
    → IsSceneRun told start entries now count → start.wire ≡ nothing_sent
    → IsCourse now.image told entries now.wire count
scene_course told start now [] count run empty = (ap (λ (scene : Scene). scene.wire) run.0 ∙ empty, run.1)
scene_course told start now (entry ∷ earlier) count run empty =
    let before = run.0 in
    let same : before.image ≡ now.image = sym run.4.image in (
      before.wire,
      run.1,
      run.2,
      subst (λ image. IsCourse image told earlier before.wire run.1) same
          (scene_course told start before earlier run.1 run.3 empty),
      subst (λ image. NetworkEvent image told before.wire entry now.wire run.2) same run.4.network,
      run.5,
    )

-- without a monitor each event is the drive's alone, and none comes
pub acted_alone : (wire : Wire) (from to : Physical) (old : Option Watched) (entry : Entry) (new : Option Watched)
    → old ≡ None → IsActed wire from to old entry new → (new ≡ None) × DriveEvent from entry to
acted_alone wire from to None entry None none acted = (refl, acted)
acted_alone wire from to None entry (Some new) none acted = absurd acted
acted_alone wire from to (Some old) entry new none acted = absurd cc

alone : (told : Option (List ℕ)) (start now : Scene) (entries : List Entry) (count : ℕ)
    → IsSceneRun told start entries now count → start.watched ≡ None
    → (now.watched ≡ None) × IsDriveRun start.drive entries now.drive
alone told start now [] count run none =
    (ap (λ (scene : Scene). scene.watched) run.0 ∙ none, ap (λ (scene : Scene). scene.drive) run.0)
alone told start now (entry ∷ earlier) count run none =
    let before = run.0 in
    let was = alone told start before earlier run.1 run.3 none in
    let one = acted_alone before.wire before.drive now.drive before.watched entry now.watched was.0 run.4.acted in
    (one.0, (before.drive, was.1, one.1))

pub drive_alone : (told : Option (List ℕ)) (start now : Scene) (entries : List Entry) (count : ℕ)
    → IsSceneRun told start entries now count → start.watched ≡ None → IsDriveRun start.drive entries now.drive
drive_alone told start now entries count run none = (alone told start now entries count run none).1
