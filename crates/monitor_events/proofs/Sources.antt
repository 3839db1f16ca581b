-- A step of the drive, and the sectors that it gives the guest.
use Rattle.std.proofs.Common.{◌≡◌, ℕ, ◌+◌, true, false, List, [], ◌∷◌, Option, Some, None, inl, refl, sym, ap, ◌∙◌, subst, arith}
use Rattle.std.specs.Prelude.{IfSome, is_some}
use Rattle.std.proofs.lemmas.Bool.{true≢false}
use Rattle.ata_taskfile.specs.declared.Request.{Request}
use Rattle.ata_taskfile.specs.declared.Step.{Step}
use Rattle.ata_taskfile.specs.declared.Step.TheVariants as step
use Rattle.ata_taskfile.specs.declared.Stepped.{Stepped}
use Rattle.ata_taskfile.specs.declared.Stepped.TheVariants.{Changed, Nothing}
use Rattle.ata_taskfile.specs.declared.Taken.TheVariants.{Good, Bad}
use Rattle.ata_taskfile.specs.declared.Phase.{Phase}
use Rattle.ata_taskfile.specs.declared.Phase.TheVariants.{Reset, Idle, Busy, Ready}
use Rattle.ata_taskfile.specs.declared.task_file.TaskFile.{TaskFile}
use Rattle.ata_taskfile.specs.Device.{Device}
use Rattle.plain_drive.specs.Alike.{reads_sector}
use Rattle.plain_drive.specs.Plain.{Plain}
use Rattle.plain_drive.proofs.Dressed.{step_reads}
use Rattle.port_lease.specs.declared.guest_side.GuestSide.{GuestSide}
use Rattle.port_lease.specs.declared.monitor_side.MonitorSide.{MonitorSide}
use Rattle.port_lease.specs.declared.view.View.{View}
use Rattle.port_lease.specs.Sides.{view_held}
use Rattle.dummy_read.specs.declared.dummy.Dummy.{Dummy}
use Rattle.redirect.specs.declared.redirect.Redirect.{Redirect}
use Rattle.redirect.specs.Next.{request_of}
use Rattle.streaming.specs.Lines.{Line}
use Rattle.streaming.specs.Monitor.{item_of}
use Rattle.streaming.specs.Sources.{HasSourcesAlong, IsSourced, LoadsSourced, loads, one_writes}
use Rattle.monitor_state.specs.declared.held.HeldPiece.{HeldPiece}
use Rattle.monitor_state.specs.declared.parts.Parts.{Parts}
use Rattle.monitor_state.specs.declared.state.Plan.{Plan}
use Rattle.monitor_state.specs.declared.state.Plan.TheVariants as plan
use Rattle.monitor_state.specs.declared.state.Purpose.TheVariants as purpose
use Rattle.monitor_state.specs.declared.state.State.{State}
use Rattle.monitor_state.specs.declared.state.State.TheVariants.{Guest, Monitor, Running, Raising, Moving}
use Rattle.monitor_state.specs.Fits.{Fits, FitsPlan}
use Rattle.monitor_state.specs.Hand.{HasInHand, HoldsSector, WorksOn}
use Rattle.monitor_state.specs.Seen.{is_refused_in}
use Rattle.monitor_state.specs.Sourced.{HeldSourced, KeepsSources, ReadsFor}
use Rattle.monitor_events.specs.Shown.{HasComeTo}
use Rattle.monitor_events.specs.Stepping.{item_planned, parts_planned, plan_of_step}

-- a sector that a good step loads or moves is one that the order in hand reads
loads_read : (phase : Phase) (s : ℕ) → loads phase s ≡ true → reads_sector phase s ≡ true
loads_read phase s moves = grind arith

-- a step of the guest's drive gives no sector that wasn't told
step_along : (kind : Step) (effect : Stepped) (image : ℕ) (q : Plain) (lines : List Line)
    → LoadsSourced image q.device.file.phase lines
    → HasSourcesAlong image (item_of (plan_of_step kind effect)) q lines
step_along kind Nothing image q lines sourced = tt
step_along step.Good Changed image q lines sourced = ((tt, sourced), tt)
step_along step.Bad Changed image q lines sourced = tt

step_writes : (kind : Step) (effect : Stepped) → one_writes (item_of (plan_of_step kind effect)) ≡ false
step_writes kind Nothing = refl
step_writes step.Good Changed = refl
step_writes step.Bad Changed = refl

pub guests_step_keeps : (side : GuestSide) (p : Parts) (kind : Step) (effect : Stepped) (old now : Plain)
    → HasComeTo (Guest side) p kind effect old now
    → KeepsSources (Guest side) p old.device (plan_of_step kind effect) (Guest side) p now.device
guests_step_keeps side p kind effect old now come = record {
  loads = λ lines memory q shows has.
      step_along kind effect p.area.image q lines
      (λ s moves. inl (has.read s
      (ap (λ (f : TaskFile). reads_sector f.phase s) (sym shows.file) ∙ loads_read q.device.file.phase s moves)));
  keeps = λ lines told has. record {
    held = has.held;
    demand = has.demand;
    background = has.background;
    read = λ s reads. has.read s
        (step_reads kind old s
        (ap (λ (t : Plain). reads_sector t.device.file.phase s) (sym come.stepped.after) ∙ reads));
  };
  spares = λ reads. step_writes kind effect;
}

-- what the drive reads for the guest is told by the state alone while the monitor has it
unseen_reads : (s : State) (d e : Device) (lines : List Line) → ((side : GuestSide) → s ≡ Guest side → ⊥)
    → ReadsFor s d lines → ReadsFor s e lines
unseen_reads (Guest side) d e lines other read = absurd (other side refl)
unseen_reads (Monitor side) d e lines other read = read
unseen_reads (Running side own purpose.Opening) d e lines other read = tt
unseen_reads (Running side own (purpose.Piece first count lease)) d e lines other read = read
unseen_reads (Raising side dummy planned) d e lines other read = read
unseen_reads Moving d e lines other read = read

-- a step that is told by nothing, while the monitor has the drive
pub unseen_keeps : (s : State) (p : Parts) (d e : Device) → ((side : GuestSide) → s ≡ Guest side → ⊥)
    → KeepsSources s p d None s p e
unseen_keeps s p d e other = record {
  loads = λ lines memory q shows has. tt;
  keeps = λ lines told has. record {
    held = has.held;
    demand = has.demand;
    background = has.background;
    read = unseen_reads s d e lines other has.read;
  };
  spares = λ reads. refl;
}

-- the held piece has the sector that is offered next
next_held : (piece : Option HeldPiece) (p : Parts) (order : Request) (sector : ℕ) (lines : List Line)
    → is_some piece ≡ true → IfSome piece (HoldsSector p order sector) → HeldSourced p.area.image piece lines
    → IsSourced p.area.image sector lines
next_held None p order sector lines some holds sourced = absurd (true≢false (sym some))
next_held (Some held) p order sector lines some holds sourced = sourced sector holds.from holds.ahead

next_offered : (redirect : Option Redirect) (v : View) (p : Parts) (order : Request) (done : ℕ) (lines : List Line)
    → is_some redirect ≡ true → is_some p.held ≡ true → WorksOn redirect v p (Good order) done
    → HeldSourced p.area.image p.held lines → IsSourced p.area.image (order.first + done) lines
next_offered None v p order done lines some held on sourced = absurd (true≢false (sym some))
next_offered (Some redirect) v p order done lines some held on sourced =
    let same : request_of redirect ≡ order = cc in
    next_held p.held p order (order.first + done) lines held
    (subst (λ (r : Request). IfSome p.held (HoldsSector p r (r.first + done))) same on.1.held) sourced

-- a transfer all of whose sectors have moved moves none
ended_loads : (order : Request) (done s : ℕ) → done ≡ order.count → loads (Busy (Good order) done) s ≡ false
ended_loads order done s all = grind arith

offered_loads : (order : Request) (done s : ℕ) → loads (Busy (Good order) done) s ≡ true → s ≡ order.first + done
offered_loads order done s moves = grind arith

-- the step that was planned gives no sector without a source
module _ (v : View) (p : Parts) (lines : List Line) (sourced : HeldSourced p.area.image p.held lines) where
  planned_loads : (due : Plan) (phase : Phase) → FitsPlan due phase p → HasInHand phase v p
      → is_refused_in phase p ≡ false → (q : Plain) → q.device.file.phase ≡ phase
      → HasSourcesAlong p.area.image (item_planned due ∷ []) q lines
  planned_loads plan.Serve (Busy (Good order) done) fits has served q at = (
    (
      tt,
      λ s moves.
          subst (λ s. IsSourced p.area.image s lines)
          (sym (offered_loads order done s (ap (λ phase. loads phase s) (sym at) ∙ moves)))
          (next_offered p.hand.redirect v p order done lines fits.3 fits.2 has sourced),
    ),
    tt,
  )
  planned_loads plan.End (Busy (Good order) done) fits has served q at = (
    (
      tt,
      λ s moves.
          absurd (true≢false (sym (ap (λ phase. loads phase s) (sym at) ∙ moves) ∙ ended_loads order done s fits.1)),
    ),
    tt,
  )
  planned_loads plan.Fail (Busy (Good order) done) fits has served q at = tt
  planned_loads plan.Reserved (Busy order done) fits has served q at = absurd (true≢false (sym fits.1 ∙ served))
  planned_loads plan.Serve Reset fits has served q at = absurd fits
  planned_loads plan.Serve Idle fits has served q at = absurd fits
  planned_loads plan.Serve (Busy (Bad reason) done) fits has served q at = absurd fits
  planned_loads plan.Serve (Ready order done left) fits has served q at = absurd fits
  planned_loads plan.End Reset fits has served q at = absurd fits
  planned_loads plan.End Idle fits has served q at = absurd fits
  planned_loads plan.End (Busy (Bad reason) done) fits has served q at = absurd fits
  planned_loads plan.End (Ready order done left) fits has served q at = absurd fits
  planned_loads plan.Fail Reset fits has served q at = absurd fits
  planned_loads plan.Fail Idle fits has served q at = absurd fits
  planned_loads plan.Fail (Busy (Bad reason) done) fits has served q at = absurd fits
  planned_loads plan.Fail (Ready order done left) fits has served q at = absurd fits
  planned_loads plan.Reserved Reset fits has served q at = absurd fits
  planned_loads plan.Reserved Idle fits has served q at = absurd fits
  planned_loads plan.Reserved (Ready order done left) fits has served q at = absurd fits

planned_writes : (due : Plan) → one_writes (item_planned due ∷ []) ≡ false
planned_writes plan.Serve = refl
planned_writes plan.End = refl
planned_writes plan.Fail = refl
planned_writes plan.Reserved = refl

-- a dummy read ends, and the view makes the step that was planned
pub raised_keeps : (side new : MonitorSide) (dummy : Dummy) (due : Plan) (p : Parts) (d e : Device)
    → Fits (Raising side dummy due) p d
    → KeepsSources (Raising side dummy due) p d (Some (item_planned due)) (Monitor new) (parts_planned due p) e
raised_keeps side new dummy due p d e fits = record {
  loads = λ lines memory q shows has.
      let state = fits.parts.state in
      planned_loads (view_held side) p lines has.held due (view_held side).file.phase state.7 state.2 shows.served q
      (ap (λ (f : TaskFile). f.phase) shows.file);
  keeps = λ lines told has. record {
    held = has.held;
    demand = has.demand;
    background = has.background;
    read = tt;
  };
  spares = λ reads. planned_writes due;
}
