-- The step by which a dummy read's interrupt comes, as the guest sees it: the view makes the step that was planned.
use Rattle.std.proofs.Common.{◌≡◌, ℕ, ◌+◌, ◌≤◌, ◌∷◌, [], ◌&&◌, true, false, not, List, Option, Some, None, refl, sym, ap, ◌∙◌, subst, arith}
use Rattle.std.specs.Prelude.{IfSome, is_some}
use Rattle.std.proofs.lemmas.Bool.{true≢false}
use Rattle.ata_taskfile.specs.declared.registers.TheConstants.{BLOCK_WORDS}
use Rattle.ata_taskfile.specs.declared.Kind.{Kind}
use Rattle.ata_taskfile.specs.declared.Kind.TheVariants as kind
use Rattle.ata_taskfile.specs.declared.Request.{Request}
use Rattle.ata_taskfile.specs.declared.Step.{Step}
use Rattle.ata_taskfile.specs.declared.Step.TheVariants as step
use Rattle.ata_taskfile.specs.declared.Stepped.{Stepped}
use Rattle.ata_taskfile.specs.declared.Taken.TheVariants.{Good, Bad}
use Rattle.ata_taskfile.specs.declared.Phase.{Phase}
use Rattle.ata_taskfile.specs.declared.Phase.TheVariants.{Reset, Idle, Busy, Ready}
use Rattle.ata_taskfile.specs.Bus.{raised}
use Rattle.ata_taskfile.specs.Data.{gives_words, moves_by_bus}
use Rattle.ata_taskfile.specs.TaskFile.{line, masks_line}
use Rattle.ata_taskfile.specs.Device.{Device}
use Rattle.mon_pool.specs.Region.{Region}
use Rattle.plain_drive.specs.Alike.{block_matters, without_command}
use Rattle.plain_drive.specs.Plain.{Plain, sector_value, with_block, words_of}
use Rattle.plain_drive.specs.Step.{step_made, words_due}
use Rattle.plain_run.specs.Plan.{ActsAlong, planned}
use Rattle.port_lease.specs.declared.view.View.{View}
use Rattle.port_lease.specs.declared.monitor_side.MonitorSide.{MonitorSide}
use Rattle.port_lease.specs.Seen.{bus_beside}
use Rattle.port_lease.specs.Sides.{view_held}
use Rattle.dummy_read.specs.declared.dummy.Dummy.{Dummy}
use Rattle.dummy_read.specs.Dummy.{is_cancelled}
use Rattle.dummy_read.specs.Flight.{ended}
use Rattle.guest_view.specs.Seen.{drive_on_monitor_side}
use Rattle.guest_view.specs.Steps.{FollowsLine, after_failure, after_finish, after_offer}
use Rattle.guest_view.proofs.DriveSteps.{failure_acts, failure_stepped, offer_acts, offer_stepped, transfer_acts, transfer_stepped}
use Rattle.redirect.specs.declared.redirect.Redirect.{Redirect}
use Rattle.redirect.specs.Next.{request_of}
use Rattle.monitor_state.specs.declared.held.HeldPiece.{HeldPiece}
use Rattle.monitor_state.specs.declared.parts.Parts.{Parts}
use Rattle.monitor_state.specs.declared.state.State.TheVariants.{Monitor, Raising}
use Rattle.monitor_state.specs.declared.state.Plan.{Plan}
use Rattle.monitor_state.specs.declared.state.Plan.TheVariants as plan
use Rattle.monitor_state.specs.Hand.{HasInHand, HoldsSector, WorksOn}
use Rattle.monitor_state.specs.Fits.{FitsPlan}
use Rattle.monitor_state.specs.Seen.{Shows, block_offered, is_refused_in}
use Rattle.monitor_state.specs.Sectors.{IsPieceOf}
use Rattle.monitor_state.specs.GoesOn.{GoesOn}
use Rattle.monitor_state.proofs.Shown.{acts_there, beside_shown, view_steps}
use Rattle.monitor_state.proofs.Steps.{stepped_fits}
use Rattle.monitor_events.specs.Shown.{HasComeTo}
use Rattle.monitor_events.specs.Stepping.{item_planned, parts_planned, planned_in, view_planned}
use Rattle.monitor_events.proofs.Planned.{shown_planned}

-- the words that a read gives are those of its sector
sectors_words : (k : Kind) (s : ℕ) (g : Device) → k ≡ kind.Read → words_due k s g ≡ words_of (sector_value s g)
sectors_words k s g is = ap (λ k. words_due k s g) is

-- and the held piece has them
words_held : (piece : Option HeldPiece) (pool : Region) (p : Parts) (order : Request) (done : ℕ) (g : Device)
    → is_some piece ≡ true → IfSome piece (HoldsSector p order (order.first + done)) → IsPieceOf g pool piece
    → words_of (sector_value (order.first + done) g) ≡ block_offered (Ready (Good order) done BLOCK_WORDS) piece pool
words_held None pool p order done g some holds agrees = absurd (true≢false (sym some))
words_held (Some held) pool p order done g some holds agrees =
    ap words_of (agrees (order.first + done) holds.from holds.ahead)

words_offered : (redirect : Option Redirect) (v : View) (p : Parts) (order : Request) (done : ℕ) (g : Device)
    → is_some redirect ≡ true → is_some p.held ≡ true → WorksOn redirect v p (Good order) done
    → IsPieceOf g p.pool p.held
    → words_due order.kind (order.first + done) g ≡ block_offered (Ready (Good order) done BLOCK_WORDS) p.held p.pool
words_offered None v p order done g some held on agrees = absurd (true≢false (sym some))
words_offered (Some redirect) v p order done g some held on agrees =
    let same : request_of redirect ≡ order = cc in
    let read = subst (λ (r : Request). r.kind ≡ kind.Read) same on.1.read.kind in
    let holds = subst (λ (r : Request). IfSome p.held (HoldsSector p r (r.first + done))) same on.1.held in
    sectors_words order.kind (order.first + done) g read
    ∙ words_held p.held p.pool p order done g held holds agrees

-- the line of the view goes as that of the drive, whose interrupt comes
pub raised_line : (v w : View) (d n : Device) → v.file.pending ≡ false → w.file.pending ≡ true
    → masks_line w.file ≡ masks_line v.file → d.file.pending ≡ false → masks_line d.file ≡ masks_line v.file
    → masks_line n.file ≡ masks_line v.file → n.bus ≡ raised (line d.file) (not (masks_line d.file)) d.bus
    → FollowsLine v w d (ended false n)
raised_line v w d n calm pends masks waits before stays rises = record {
  before = ap (λ b. b && not (masks_line d.file)) waits ∙ sym (ap (λ b. b && not (masks_line v.file)) calm);
  after = ap not (stays ∙ sym masks) ∙ sym (ap (λ b. b && not (masks_line w.file)) pends);
  bus = rises ∙ ap (λ b. raised (line d.file) (not b) d.bus) (before ∙ sym stays);
}

-- a plain drive with the registers of a view, and the bus master of view and drive
module _ (v : View) (new : MonitorSide) (p : Parts) (d e : Device) (left : List ℕ) (q : Plain)
    (file : without_command q.device.file ≡ without_command v.file) (bus : q.device.bus ≡ bus_beside v.bus d.bus)
    (sectors : q.device.sectors ≡ p.area.sectors) (memory : q.memory ≡ left) where
  -- a step of it to another view is one to what the guest sees beside that
  shown_there : (k : Step) (w : View) (after : Parts) (r : Plain) → view_held new ≡ w
      → step_made k (drive_on_monitor_side v d q) ≡ drive_on_monitor_side w e r
      → (block_matters w.file.phase ≡ true → r.device.block ≡ block_offered w.file.phase after.held after.pool)
      → r.device.sectors ≡ after.area.sectors → r.memory ≡ left → is_refused_in w.file.phase after ≡ false
      → Shows (Monitor new) after e left (step_made k q)
  shown_there k w after r view is block same_sectors same_memory served =
      subst (λ m. Shows (Monitor new) after e m (step_made k q)) same_memory
      (beside_shown (Monitor new) after w e (step_made k q) r (ap (λ (w : View). w.file) view)
      (ap (λ (w : View). bus_beside w.bus e.bus) view) (view_steps v d q file bus k w e r is)
      (λ matters. block matters ∙ ap (λ (w : View). block_offered w.file.phase after.held after.pool) (sym view))
      same_sectors (ap (λ (w : View). is_refused_in w.file.phase after) view ∙ served))

  offered_shown : (order : Request) (done : ℕ) → v.file.phase ≡ Busy (Good order) done
      → FitsPlan plan.Serve (Busy (Good order) done) p → HasInHand (Busy (Good order) done) v p
      → IsPieceOf q.device p.pool p.held → view_held new ≡ after_offer order done v
      → FollowsLine v (after_offer order done v) d e
      → ActsAlong (item_planned plan.Serve ∷ []) q
      × Shows (Monitor new) p e left (planned (item_planned plan.Serve ∷ []) q)
  offered_shown order done is fits has piece view follows =
      let gives = ap gives_words fits.0 in
      let r = with_block (words_due order.kind (order.first + done) q.device) q in (
        (omega arith, (tt, acts_there v d q file bus step.Good ∙ offer_acts v order done d q is gives), tt),
        shown_there step.Good (after_offer order done v) p r view (offer_stepped v order done d e q is gives follows)
            (λ _. words_offered p.hand.redirect v p order done q.device fits.3 fits.2 has piece) sectors memory refl,
      )

  ended_shown : (order : Request) (done : ℕ) → v.file.phase ≡ Busy (Good order) done
      → FitsPlan plan.End (Busy (Good order) done) p → view_held new ≡ after_finish v
      → FollowsLine v (after_finish v) d e
      → ActsAlong (item_planned plan.End ∷ []) q
      × Shows (Monitor new) (parts_planned plan.End p) e left (planned (item_planned plan.End ∷ []) q)
  ended_shown order done is fits view follows =
      let moves = ap moves_by_bus fits.0 in
      let all : order.count ≤ done = omega (arith, fits.1) in (
        (omega arith, (tt, acts_there v d q file bus step.Good ∙ transfer_acts v order done d q is moves all), tt),
        shown_there step.Good (after_finish v) (parts_planned plan.End p) q view
            (transfer_stepped v order done d e q is moves all follows) (λ matters. absurd (true≢false (sym matters)))
            sectors memory refl,
      )

  failed_shown : (order : Request) (done : ℕ) → v.file.phase ≡ Busy (Good order) done
      → view_held new ≡ after_failure order done v → FollowsLine v (after_failure order done v) d e
      → ActsAlong (item_planned plan.Fail ∷ []) q
      × Shows (Monitor new) (parts_planned plan.Fail p) e left (planned (item_planned plan.Fail ∷ []) q)
  failed_shown order done is view follows = (
    (acts_there v d q file bus step.Bad ∙ failure_acts v order done d q is, tt),
    shown_there step.Bad (after_failure order done v) (parts_planned plan.Fail p) q view
        (failure_stepped v order done d e q is follows) (λ matters. absurd (true≢false (sym matters))) sectors memory
        refl,
  )

  -- what was planned is a step of the plain drive, which the guest sees then
  planned_shown : (due : Plan) (phase : Phase) → v.file.phase ≡ phase → FitsPlan due phase p → HasInHand phase v p
      → IsPieceOf q.device p.pool p.held → is_refused_in phase p ≡ false → view_held new ≡ planned_in due phase v
      → FollowsLine v (planned_in due phase v) d e
      → ActsAlong (item_planned due ∷ []) q
      × Shows (Monitor new) (parts_planned due p) e left (planned (item_planned due ∷ []) q)
  planned_shown plan.Serve (Busy (Good order) done) is fits has piece served view follows =
      offered_shown order done is fits has piece view follows
  planned_shown plan.End (Busy (Good order) done) is fits has piece served view follows =
      ended_shown order done is fits view follows
  planned_shown plan.Fail (Busy (Good order) done) is fits has piece served view follows =
      failed_shown order done is view follows
  planned_shown plan.Reserved (Busy order done) is fits has piece served view follows =
      absurd (true≢false (sym fits.1 ∙ served))
  planned_shown plan.Serve Reset is fits has piece served view follows = absurd fits
  planned_shown plan.Serve Idle is fits has piece served view follows = absurd fits
  planned_shown plan.Serve (Busy (Bad reason) done) is fits has piece served view follows = absurd fits
  planned_shown plan.Serve (Ready order done left) is fits has piece served view follows = absurd fits
  planned_shown plan.End Reset is fits has piece served view follows = absurd fits
  planned_shown plan.End Idle is fits has piece served view follows = absurd fits
  planned_shown plan.End (Busy (Bad reason) done) is fits has piece served view follows = absurd fits
  planned_shown plan.End (Ready order done left) is fits has piece served view follows = absurd fits
  planned_shown plan.Fail Reset is fits has piece served view follows = absurd fits
  planned_shown plan.Fail Idle is fits has piece served view follows = absurd fits
  planned_shown plan.Fail (Busy (Bad reason) done) is fits has piece served view follows = absurd fits
  planned_shown plan.Fail (Ready order done left) is fits has piece served view follows = absurd fits
  planned_shown plan.Reserved Reset is fits has piece served view follows = absurd fits
  planned_shown plan.Reserved Idle is fits has piece served view follows = absurd fits
  planned_shown plan.Reserved (Ready order done left) is fits has piece served view follows = absurd fits

-- the interrupt comes, the dummy read ends, and the view makes the step that was planned: to the guest that is one step
-- of the plain drive
pub raised_shown : (side new : MonitorSide) (dummy : Dummy) (due : Plan) (p : Parts) (kind : Step) (effect : Stepped)
    (old now : Plain) (e : Device) → HasComeTo (Raising side dummy due) p kind effect old now
    → now.memory ≡ old.memory → now.device.bus ≡ raised (line old.device.file) (not (masks_line old.device.file))
    old.device.bus → view_held new ≡ view_planned due (view_held side) → e ≡ ended (is_cancelled dummy) now.device
    → GoesOn (Raising side dummy due) p old.device old.memory (item_planned due ∷ []) (Monitor new)
    (parts_planned due p) e now.memory
raised_shown side new dummy due p kind effect old now e come left rises view drive q shows agree =
    let v = view_held side in
    let state = come.fits.parts.state in
    let fits = stepped_fits (Raising side dummy due) p kind effect old now come.lawful come.fits come.stepped in
    let seen = shown_planned due v.file.phase v p state.7 in
    let follows = raised_line v (view_planned due v) old.device now.device state.3 seen.0 seen.1
    (come.fits.device.0.pending ∙ ap not come.between) come.fits.device.1 fits.device.1 rises in
    let ends : e ≡ ended false now.device = drive ∙ ap (λ cancelled. ended cancelled now.device) state.6 in
    planned_shown v new p old.device e now.memory q shows.file shows.bus shows.sectors (shows.memory_is ∙ sym left) due
    v.file.phase refl state.7 state.2 agree.held shows.served view
    (subst (FollowsLine v (view_planned due v) old.device) (sym ends) follows)
