-- A run as the guests of its deployments see it, one event after the other.
use Rattle.std.proofs.Common.{◌≡◌, ◌<◌, ℕ, Bool, true, false, List, [], ◌∷◌, Option, Some, None, if◌then◌else◌, refl, sym, subst}
use Rattle.std.specs.Prelude.{IfSome}
use Rattle.bm_host.specs.Outside.{IfTold}
use Rattle.fill_bitmap.specs.Disk.{guest_view}
use Rattle.plain_drive.specs.Cut.{IsOutcome}
use Rattle.plain_drive.specs.Plain.{sectors_in}
use Rattle.plain_run.specs.Entry.{Entry}
use Rattle.streaming.specs.World.{SceneEvent}
use Rattle.world.specs.Coupled.{BeginsAsPlain, Deployment, KeepsFor, KeepsPlain, Stands, closes, known_of, lines_on, plain_after}
use Rattle.world.specs.WorldState.{WorldState}
use Rattle.world.proofs.Cuts.{found_outcome}
use Rattle.monitor_state.specs.Overlaid.{Known}
use Rattle.bmcast.specs.Guest.{Guest, HasGuestRun, IsGuestRun, guest_after, guest_over}
use Rattle.bmcast.specs.GuestRuns.{GuestRuns, RunsForGuest}

-- before the first event
pub guests_none : (told : Option (List ℕ)) (start : WorldState) → GuestRuns told start [] start
guests_none None start = tt
guests_none (Some image) start = λ deployed of begins. record {
  guest = Some (guest_over deployed start.scene);
  run = (refl, refl);
  stands = begins;
}

-- without a closing mark the world stands on
stands_on : (marked : Bool) (g : Guest) (P : Guest → Type 0) → (marked ≡ false → P g)
    → IfSome (if marked then None else Some g) P
stands_on true g P step = tt
stands_on false g P step = step refl

module _ (deployed : Deployment) (start before now : WorldState) (entries : List Entry) (entry : Entry) (count : ℕ)
    (event : SceneEvent (Some deployed.image) before.scene entry now.scene count)
    (keeps : KeepsPlain deployed.image before entry now) where
  -- one event more
  runs_on : (guest : Option Guest) → IsGuestRun deployed start.scene entries before.scene guest
      → IfSome guest (λ g. Stands deployed (known_of deployed start.scene.drive.kept.durable) before g.plain g.lines)
      → RunsForGuest deployed start (entry ∷ entries) now
  runs_on None run stands = record {
    guest = None;
    run = (before.scene, None, count, run, event, refl);
    stands = tt;
  }
  runs_on (Some g) run stands =
      let k = known_of deployed start.scene.drive.kept.durable in
      let kept = keeps deployed refl k g.plain g.lines stands in
      record {
        guest = guest_after before.scene entry g;
        run = (
          before.scene,
          Some g,
          count,
          run,
          event,
          record {
            marks = kept.marks;
            memory = kept.memory;
            plain = kept.plain;
            header = kept.header;
            goes = refl;
          },
        );
        stands = stands_on (closes entry.items) (record {
          plain = plain_after entry g.plain;
          lines = lines_on before.scene entry g.plain g.lines;
        }) (λ h. Stands deployed k now h.plain h.lines) kept.stands;
      }

pub guests_on : (told : Option (List ℕ)) (start before now : WorldState) (entries : List Entry) (entry : Entry)
    (count : ℕ) → SceneEvent told before.scene entry now.scene count
    → IfTold told (λ image. KeepsPlain image before entry now) → GuestRuns told start entries before
    → GuestRuns told start (entry ∷ entries) now
guests_on None start before now entries entry count event keeps runs = tt
guests_on (Some image) start before now entries entry count event keeps runs = λ deployed of begins.
    let was = runs deployed of begins in
    runs_on deployed start before now entries entry count
    (subst (λ bytes. SceneEvent (Some bytes) before.scene entry now.scene count) (sym of) event)
    (subst (λ bytes. KeepsPlain bytes before entry now) (sym of) keeps) was.guest was.run was.stands

-- without a closing mark a power cut leaves what it may leave of the plain drive
left_of : (deployed : Deployment) (k : Known) (now : WorldState) (guest : Option Guest)
    → IfSome guest (λ g. Stands deployed k now g.plain g.lines)
    → IfSome guest (λ g. IsOutcome g.plain.device.cells (guest_view deployed.area deployed.id
    (sectors_in deployed.area.image deployed.image) now.scene.drive.kept.durable))
left_of deployed k now None stands = tt
left_of deployed k now (Some g) stands = found_outcome deployed k now.mediator now.scene g.plain g.lines stands

-- so each deployment for which the world stood at the start has such a run
pub guest_has : (told : Option (List ℕ)) (image : ℕ) (of : List ℕ → Deployment)
    → ((bytes : List ℕ) → (of bytes).image ≡ bytes) → (start now : WorldState) (entries : List Entry)
    → IfTold told (λ bytes. 0 < image → BeginsAsPlain (of bytes) start) → GuestRuns told start entries now
    → IfTold told (λ bytes. 0 < image → HasGuestRun (of bytes) start.scene entries now.scene)
guest_has None image of is start now entries begins runs = tt
guest_has (Some bytes) image of is start now entries begins runs = λ some.
    let has = runs (of bytes) (is bytes) (begins some) in
    record {
      guest = has.guest;
      run = has.run;
      left = left_of (of bytes) (known_of (of bytes) start.scene.drive.kept.durable) now has.guest has.stands;
    }
