-- Where the sectors come from that the steps of a turn load or move.
use Rattle.std.proofs.Common.{◌≡◌, ◌+◌, ◌≤◌, ◌==◌, ℕ, Bool, true, false, if◌then◌else◌, List, Option, Some, None, refl, sym, ap, ◌∙◌, subst, arith}
use Rattle.std.specs.Prelude.{IfSome}
use Rattle.ata_taskfile.specs.declared.Form.TheVariants.{DmaIn}
use Rattle.ata_taskfile.specs.declared.Request.{Request}
use Rattle.ata_taskfile.specs.declared.Taken.TheVariants.{Good}
use Rattle.ata_taskfile.specs.declared.Phase.{Phase}
use Rattle.ata_taskfile.specs.declared.Phase.TheVariants.{Reset, Idle, Busy, Ready}
use Rattle.ata_taskfile.specs.declared.task_file.TaskFile.{TaskFile}
use Rattle.ata_taskfile.specs.Device.{Device}
use Rattle.ata_taskfile.specs.Lawful.{is_in_reset}
use Rattle.plain_drive.specs.Plain.{Plain}
use Rattle.port_lease.specs.declared.monitor_side.MonitorSide.{MonitorSide}
use Rattle.port_lease.specs.Sides.{view_held}
use Rattle.redirect.specs.Next.{has_sector}
use Rattle.schedule_text.specs.declared.Item.TheVariants as item
use Rattle.streaming.specs.Lines.{Line}
use Rattle.streaming.specs.Monitor.{item_of}
use Rattle.streaming.specs.Sources.{AllLoadSourced, HasSourcesAlong, IsSourced, LoadsSourced, loads, one_writes}
use Rattle.monitor_state.specs.declared.state.State.TheVariants.{Monitor}
use Rattle.monitor_state.specs.declared.held.HeldPiece.{HeldPiece}
use Rattle.monitor_state.specs.declared.parts.Parts.{Parts}
use Rattle.monitor_state.specs.Hand.{HoldsSector}
use Rattle.monitor_state.specs.Pieces.{ends_before, piece_let_go, tidied}
use Rattle.monitor_state.specs.Sourced.{HasSources, HeldSourced, KeepsSources}
use Rattle.monitor_state.specs.State.{end_of_piece, range_of}
use Rattle.monitor_turn.specs.Told.{steps_told}
use Rattle.monitor_turn.proofs.Went.{all_sourced, loaded_at}

-- one step is told of a plain drive that the guest sees
one_step : (side after : MonitorSide) (p : Parts) (d : Device)
    → ((lines : List Line) → HasSources (Monitor side) p d lines
    → LoadsSourced p.area.image (view_held side).file.phase lines)
    → KeepsSources (Monitor side) p d (Some (item.Go 1)) (Monitor after) p d
one_step side after p d sourced = record {
  loads = λ lines memory q shows has.
      let seen : (view_held side).file.phase ≡ q.device.file.phase =
      sym (ap (λ (f : TaskFile). f.phase) shows.file) in (
        (tt, subst (λ (phase : Phase). LoadsSourced p.area.image phase lines) seen (sourced lines has)),
        tt,
      );
  keeps = λ lines told has.
      record { held = has.held; demand = has.demand; background = has.background; read = tt };
  spares = λ read. refl;
}

reset_loads : (phase : Phase) (s : ℕ) → is_in_reset phase ≡ true → loads phase s ≡ false
reset_loads Reset s resets = refl
reset_loads Idle s resets = absurd cc
reset_loads (Busy order done) s resets = absurd cc
reset_loads (Ready order done left) s resets = absurd cc

-- the end of a reset loads none
pub reset_sources : (side after : MonitorSide) (p : Parts) (d : Device)
    → is_in_reset (view_held side).file.phase ≡ true
    → KeepsSources (Monitor side) p d (Some (item.Go 1)) (Monitor after) p d
reset_sources side after p d resets = one_step side after p d
    (λ lines has s is. absurd (let no = reset_loads (view_held side).file.phase s resets in cc))

held_sourced : (image s : ℕ) (held : Option HeldPiece) (lines : List Line) → has_sector (range_of held) s ≡ true
    → HeldSourced image held lines → IsSourced image s lines
held_sourced image s None lines here has = absurd cc
held_sourced image s (Some held) lines here has = has s (grind (arith, here)) (grind (arith, here))

-- a block that is offered is one of the held piece
pub offered_sources : (side after : MonitorSide) (order : Request) (done : ℕ) (p : Parts) (d : Device)
    → (view_held side).file.phase ≡ Busy (Good order) done
    → has_sector (range_of p.held) (order.first + done) ≡ true
    → KeepsSources (Monitor side) p d (Some (item.Go 1)) (Monitor after) p d
offered_sources side after order done p d at here = one_step side after p d (λ lines has s is.
    subst (λ (s : ℕ). IsSourced p.area.image s lines)
    (sym (loaded_at (view_held side).file.phase order done s at is))
    (held_sourced p.area.image (order.first + done) p.held lines here has.held))

held_steps : (held : Option HeldPiece) (p : Parts) (image : ℕ) (order : Request) (done steps : ℕ) (q : Plain)
    (lines : List Line) → q.device.file.phase ≡ Busy (Good order) done → order.form ≡ DmaIn
    → has_sector (range_of held) (order.first + done) ≡ true
    → IfSome held (λ held. order.first + done + steps ≤ end_of_piece held)
    → IfSome held (HoldsSector p order (order.first + done)) → HeldSourced image held lines
    → AllLoadSourced image steps q lines
held_steps None p image order done steps q lines at form here few holds has = absurd cc
held_steps (Some held) p image order done steps q lines at form here few holds has =
    all_sourced steps image order done (end_of_piece held) q lines at form holds.within few
    (λ s above below. has s (omega (arith, holds.from, above)) below)

along_by : (none : Bool) (image steps : ℕ) (q : Plain) (lines : List Line) → AllLoadSourced image steps q lines
    → HasSourcesAlong image (item_of (if none then None else Some (item.Go steps))) q lines
along_by true image steps q lines all = tt
along_by false image steps q lines all = (all, tt)

spares_by : (none : Bool) (steps : ℕ) → one_writes (item_of (if none then None else Some (item.Go steps))) ≡ false
spares_by true steps = refl
spares_by false steps = refl

left_sourced : (ends : Bool) (image : ℕ) (p : Parts) (lines : List Line) → HeldSourced image p.held lines
    → HeldSourced image (if ends then piece_let_go p else p).held lines
left_sourced true image p lines has = tt
left_sourced false image p lines has = has

let_go_rest : (ends : Bool) (p : Parts) → let r = if ends then piece_let_go p else p in
    (r.area ≡ p.area) × (r.client ≡ p.client)
let_go_rest true p = (refl, refl)
let_go_rest false p = (refl, refl)

-- the sectors that move are those of the held piece
pub scattered_sources : (side after : MonitorSide) (request : Request) (done n steps : ℕ) (p : Parts) (d : Device)
    → (view_held side).file.phase ≡ Busy (Good request) done → request.form ≡ DmaIn
    → has_sector (range_of p.held) (request.first + done) ≡ true
    → IfSome p.held (λ held. request.first + done + steps ≤ end_of_piece held)
    → IfSome p.held (HoldsSector p request (request.first + done))
    → KeepsSources (Monitor side) p d (steps_told steps) (Monitor after) (tidied (Busy (Good request) n) p) d
scattered_sources side after request done n steps p d at form here few holds =
    let ends = ends_before (request.first + n) p.held in
    let rest = let_go_rest ends p in
    let image = p.area.image in
    record {
      loads = λ lines memory q shows has.
          along_by (steps == 0) image steps q lines
          (held_steps p.held p image request done steps q lines (ap (λ (f : TaskFile). f.phase) shows.file ∙ at) form
          here few holds has.held);
      keeps = λ lines told has. record {
        held = rw rest.0 (left_sourced ends image p lines has.held);
        demand = rw rest.1 has.demand;
        background = rw rest.1 has.background;
        read = tt;
      };
      spares = λ read. spares_by (steps == 0) steps;
    }
