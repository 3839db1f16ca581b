-- Inner: what an event makes of the plain drives for which a monitor and its drive stand.
use Rattle.std.specs.Prelude.{ℕ, ◌≡◌, true, false, List, [], ◌∷◌, Option, Some, None}
use Rattle.ata_taskfile.specs.declared.Access.{Access}
use Rattle.ata_taskfile.specs.declared.Answer.{Answer}
use Rattle.ata_taskfile.specs.Access.{answer_to}
use Rattle.ata_taskfile.specs.Accesses.{all_accessed}
use Rattle.aoe_net.specs.Wire.{Wire}
use Rattle.plain_drive.specs.Alike.{after_access}
use Rattle.plain_drive.specs.Physical.{Physical, seen}
use Rattle.plain_drive.specs.Plain.{Plain}
use Rattle.schedule_text.specs.declared.Event.{Event}
use Rattle.schedule_text.specs.declared.Item.{Item}
use Rattle.plain_run.specs.Guest.{after_guest, bytes_read, event_reads, with_device}
use Rattle.plain_run.specs.Plan.{planned}
use Rattle.streaming.specs.Lines.{Line, line_of, lines_after, with_accesses}
use Rattle.streaming.specs.Lines.Call.{of_access}
use Rattle.monitor_state.specs.Overlaid.{Known}
use Rattle.monitor_access.specs.Marks.{mark_over}
use Rattle.mediator.specs.declared.mediator.Mediator.{Mediator}
use Rattle.mediator.specs.Couples.{Couples, GoesAlong, IsHonestTo}
use Rattle.mediator.specs.Mediator.{parts_of}
use Rattle.world.specs.Acting.{delivered}
use Rattle.streaming.specs.Sources.{one_asks}
use Rattle.world.specs.Coupled.{MayAskIn, effect_in, closes}
use Rattle.world.specs.Deployed.{watched_of}
use Rattle.world.specs.WorldState.{WorldState}

-- a world with this monitor, this drive and this network
abbrev pub world_of : ℕ → Mediator → Physical → Wire → WorldState
world_of sectors m p wire = record {
  scene = record { drive = p; wire = wire; image = sectors; watched = Some (watched_of m) };
  mediator = Some m;
}

-- a monitor and its drive stand for a plain drive after these calls
abbrev pub StandBy : Known → Mediator → Physical → Plain → List Line → Type 0
StandBy k m p q lines = Couples k m (seen p).device p.memory q lines

-- accesses of the guest's keep each plain drive for which they stand
abbrev pub KeepsAccesses : List Access → Mediator → Physical → Mediator → Physical → Type 0
KeepsAccesses accesses m p n r = (k : Known) (q : Plain) (lines : List Line) → StandBy k m p q lines
    → StandBy k n r (with_device (all_accessed accesses q.device) q) (with_accesses accesses q lines)

-- they were answered these bytes, which are those of each
abbrev pub AnswersAccesses : List Access → Mediator → Physical → List ℕ → Type 0
AnswersAccesses accesses m p bytes = (k : Known) (q : Plain) (lines : List Line)
    → StandBy k m p q lines → bytes ≡ bytes_read accesses q.device

-- an access that isn't marked keeps each
abbrev pub KeepsAccess : Access → Mediator → Physical → Mediator → Physical → Type 0
KeepsAccess a m p n r = (k : Known) (q : Plain) (lines : List Line) → StandBy k m p q lines
    → mark_over q.device.file (parts_of m) a ≡ None
    → StandBy k n r (after_access a q) (line_of (of_access a) q [] ∷ lines)

-- its answer is that of each
abbrev pub AnswersAccess : Access → Mediator → Physical → Answer → Type 0
AnswersAccess a m p answer = (k : Known) (q : Plain) (lines : List Line) → StandBy k m p q lines
    → answer ≡ answer_to a q.device

-- the frame that comes to the client, if one does, is honest to it
abbrev pub IsHonestIfAny : List (List ℕ) → Mediator → Option (List ℕ) → Type 0
IsHonestIfAny image m None = Unit {0}
IsHonestIfAny image m (Some frame) = IsHonestTo image m frame false

-- an event with these items and this answer goes along with a plain drive that was at q, for which they stand after it:
pub record HasKept (one : Event) (wire : Wire) (k : Known) (m : Mediator) (p : Physical)
    (items : List Item) (bytes : List ℕ) (n : Mediator) (r : Physical) (q : Plain)
    (lines : List Line) : Type 0 where
  pub answered : bytes ≡ event_reads one q
  pub goes : GoesAlong (parts_of m).area.image items (after_guest one q) lines
  pub asks : (tag : ℕ) → one_asks tag items ≡ true → MayAskIn one tag lines
  pub stand : StandBy k n r (planned items (after_guest one q))
      (lines_after one wire (effect_in one p) q items lines)

-- an event without a mark keeps each plain drive for which they stand, where the reply that it delivers is honest
abbrev pub KeepsEvent : Event → Wire → Mediator → Physical → List Item → List ℕ → Mediator → Physical
    → Type 0
KeepsEvent one wire m p items bytes n r = closes items ≡ false → (k : Known) (q : Plain)
    (lines : List Line) → IsHonestIfAny k.image m (delivered one wire) → StandBy k m p q lines
    → HasKept one wire k m p items bytes n r q lines
