-- Inner: a run as the guests see it for whose plain drives its world stands.
use Rattle.std.specs.Prelude.{ℕ, ◌≡◌, List, Option, IfSome}
use Rattle.bm_host.specs.Outside.{IfTold}
use Rattle.plain_run.specs.Entry.{Entry}
use Rattle.world.specs.Coupled.{BeginsAsPlain, Deployment, Stands, known_of}
use Rattle.world.specs.WorldState.{WorldState}
use Rattle.bmcast.specs.Guest.{Guest, IsGuestRun}

-- up to the first closing mark the entries are events of the plain drive that the guest of a deployment sees, and
-- without one the world stands for it now
pub record RunsForGuest (deployed : Deployment) (start : WorldState) (entries : List Entry)
    (now : WorldState) : Type 0 where
  pub guest : Option Guest
  pub run : IsGuestRun deployed start.scene entries now.scene guest
  pub stands : IfSome guest (λ g.
      Stands deployed (known_of deployed start.scene.drive.kept.durable) now g.plain g.lines)

-- where the image is told, so they are in each deployment of it for whose plain drive the world stood at the start
abbrev pub GuestRuns : Option (List ℕ) → WorldState → List Entry → WorldState → Type 0
GuestRuns told start entries now = IfTold told (λ bytes. (deployed : Deployment)
    → deployed.image ≡ bytes → BeginsAsPlain deployed start → RunsForGuest deployed start entries now)
