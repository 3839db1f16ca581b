-- Sources stay while the lines go on, and while the client asks for the same.
use Rattle.std.proofs.Common.{◌≡◌, ◌+◌, ◌*◌, ℕ, true, false, List, Option, Some, None, inl, inr, refl, sym, ap, subst}
use Rattle.ata_taskfile.specs.Device.{Device}
use Rattle.aoe_client.specs.Asking.{Asking, tags_in}
use Rattle.aoe_client.specs.Buffers.{AsksOn, BothAskOn}
use Rattle.aoe_client.specs.Fetching.{Fetching}
use Rattle.ata_taskfile.specs.declared.task_file.TaskFile.{TaskFile}
use Rattle.plain_drive.specs.Alike.{reads_sector}
use Rattle.plain_drive.specs.Plain.{Plain}
use Rattle.plain_drive.specs.Seen.{HasLetGo}
use Rattle.streaming.specs.Lines.{Line}
use Rattle.streaming.specs.Sources.{HasCome, IsSourced, was_asked_for}
use Rattle.monitor_state.specs.declared.state.State.{State}
use Rattle.monitor_state.specs.declared.state.State.TheVariants.{Guest, Monitor, Running, Raising, Moving}
use Rattle.monitor_state.specs.declared.state.Purpose.TheVariants as purpose
use Rattle.monitor_state.specs.declared.held.HeldPiece.{HeldPiece}
use Rattle.monitor_state.specs.declared.parts.Parts.{Parts}
use Rattle.monitor_state.specs.SameAsks.{AsksTheSame, BothAskTheSame}
use Rattle.monitor_state.specs.Sourced.{GoesOnTo, HasSources, HeldSourced, ReadsFor, SlotAsked, SlotCame, WereAsked}

module _ {lines later : List Line} (on : GoesOnTo false lines later) where
  sourced_on : (image s : ℕ) → IsSourced image s lines → IsSourced image s later
  sourced_on image s (inl read) = inl (on.read refl s read)
  sourced_on image s (inr came) = inr (came.0, on.came _ came.1)

  held_on : (image : ℕ) (held : Option HeldPiece) → HeldSourced image held lines → HeldSourced image held later
  held_on image None has = tt
  held_on image (Some held) has = λ s from to. sourced_on image s (has s from to)

  came_on : (slot : Option Fetching) → SlotCame slot lines → SlotCame slot later
  came_on None came = tt
  came_on (Some f) came = λ i is. on.came _ (came i is)

  reads_on : (s : State) (d : Device) → ReadsFor s d lines → ReadsFor s d later
  reads_on (Guest side) d reads = λ s is. on.read refl s (reads s is)
  reads_on (Monitor side) d reads = tt
  reads_on (Running side own purpose.Opening) d reads = tt
  reads_on (Running side own (purpose.Piece first count lease)) d reads =
      λ s from to. on.read refl s (reads s from to)
  reads_on (Raising side dummy planned) d reads = tt
  reads_on Moving d reads = tt

-- while no command is taken what has a source has it
pub lines_keep : (s : State) (p : Parts) (d : Device) (lines later : List Line) → GoesOnTo false lines later
    → HasSources s p d lines → HasSources s p d later
lines_keep s p d lines later on has = record {
  held = held_on on p.area.image p.held has.held;
  demand = came_on on p.client.demand has.demand;
  background = came_on on p.client.background has.background;
  read = reads_on on s d has.read;
}

came_asking : (f g : Option Fetching) (lines : List Line) → AsksOn f g → SlotCame f lines → SlotCame g lines
came_asking None g lines same came = subst (λ h. SlotCame h lines) (sym same) tt
came_asking (Some f) None lines same came = tt
came_asking (Some f) (Some g) lines same came = λ i is.
    subst (λ n. HasCome (n + i) lines) (sym same.0) (came i (same.2 i is))

-- a client that asks for the same, and of which no tag is answered, keeps the sources
pub asking_keeps : (s : State) (p : Parts) (c : Asking) (d : Device) (lines : List Line) → BothAskOn p.client c
    → HasSources s p d lines → HasSources s (record p { client = c }) d lines
asking_keeps s p c d lines same has = record {
  held = has.held;
  demand = came_asking p.client.demand c.demand lines same.0 has.demand;
  background = came_asking p.client.background c.background lines same.1 has.background;
  read = has.read;
}

reads_of : (s : State) (old new : Device) (lines : List Line) → new.file ≡ old.file → ReadsFor s old lines
    → ReadsFor s new lines
reads_of (Guest side) old new lines same reads =
    λ s is. reads s (subst (λ (f : TaskFile). reads_sector f.phase s ≡ true) same is)
reads_of (Monitor side) old new lines same reads = tt
reads_of (Running side own purpose.Opening) old new lines same reads = tt
reads_of (Running side own (purpose.Piece first count lease)) old new lines same reads = reads
reads_of (Raising side dummy planned) old new lines same reads = tt
reads_of Moving old new lines same reads = tt

-- values that are let go change no register
pub let_go_keeps : (s : State) (p : Parts) (old new : Plain) (lines : List Line) → HasLetGo old new
    → HasSources s p old.device lines → HasSources s p new.device lines
let_go_keeps s p old new lines gone has = record {
  held = has.held;
  demand = has.demand;
  background = has.background;
  read = reads_of s old.device new.device lines (ap (λ (p : Plain). p.device.file) gone.after) has.read;
}

slot_later : (count : ℕ) (slot : Option Fetching) (lines later : List Line)
    → ((tag : ℕ) → was_asked_for tag lines ≡ true → was_asked_for tag later ≡ true)
    → SlotAsked count slot lines → SlotAsked count slot later
slot_later count None lines later on asked = tt
slot_later count (Some f) lines later on asked = λ i below. on _ (asked i below)

-- what was asked for stays asked for
pub lines_asked : (c : Asking) (lines later : List Line)
    → ((tag : ℕ) → was_asked_for tag lines ≡ true → was_asked_for tag later ≡ true)
    → WereAsked c lines → WereAsked c later
lines_asked c lines later on asked = (
  slot_later (tags_in c.block) c.demand lines later on asked.0,
  slot_later (tags_in c.block) c.background lines later on asked.1,
)

slot_asking : (count : ℕ) (f g : Option Fetching) (lines : List Line) → AsksTheSame f g → SlotAsked count f lines
    → SlotAsked count g lines
slot_asking count None None lines same asked = tt
slot_asking count None (Some g) lines same asked = absurd same
slot_asking count (Some f) None lines same asked = tt
slot_asking count (Some f) (Some g) lines same asked = λ i below.
    subst (λ b. was_asked_for (b * count + i) lines ≡ true) (sym same.0) (asked i below)

pub asking_asked : (old new : Asking) (lines : List Line) → BothAskTheSame old new → WereAsked old lines
    → WereAsked new lines
asking_asked old new lines same asked = subst
    (λ block. SlotAsked (tags_in block) new.demand lines × SlotAsked (tags_in block) new.background lines)
    (sym same.block) (
      slot_asking (tags_in old.block) old.demand new.demand lines same.demand asked.0,
      slot_asking (tags_in old.block) old.background new.background lines same.background asked.1,
    )
