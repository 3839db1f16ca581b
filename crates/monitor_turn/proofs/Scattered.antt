-- Sectors of a held piece that the bus master has moved.
use Rattle.std.proofs.Common.{◌≡◌, ◌+◌, ◌≤◌, ◌<◌, ◌==◌, ◌&&◌, ℕ, Bool, true, false, not, if◌then◌else◌, Option, Some, None, List, [], refl, sym, ap, ◌∙◌, subst, arith}
use Rattle.std.specs.Prelude.{IfSome, is_some}
use Rattle.ata_taskfile.specs.declared.Form.TheVariants.{DmaIn}
use Rattle.ata_taskfile.specs.declared.Request.{Request}
use Rattle.ata_taskfile.specs.declared.Taken.TheVariants.{Good, Bad}
use Rattle.ata_taskfile.specs.declared.Phase.{Phase}
use Rattle.ata_taskfile.specs.declared.Phase.TheVariants.{Reset, Idle, Busy, Ready}
use Rattle.ata_taskfile.specs.Lawful.{end_of, is_in_reset}
use Rattle.ata_taskfile.specs.declared.task_file.TaskFile.{TaskFile}
use Rattle.aoe_client.specs.Fetching.{Fetching}
use Rattle.fill_bitmap.specs.declared.area.Area.{Area}
use Rattle.fill_store.specs.Opening.{next_in_opening}
use Rattle.ata_taskfile.specs.Device.{Device}
use Rattle.plain_drive.specs.Alike.{beside_command}
use Rattle.plain_drive.specs.Plain.{Plain, plain}
use Rattle.plain_drive.specs.Step.{AllAct, went}
use Rattle.plain_run.specs.Plan.{ActsAlong, planned}
use Rattle.port_lease.specs.declared.view.View.{View}
use Rattle.port_lease.specs.declared.monitor_side.MonitorSide.{MonitorSide}
use Rattle.port_lease.specs.Sides.{has_own, view_held}
use Rattle.guest_view.specs.Fits.{FitsView}
use Rattle.guest_view.specs.Seen.{on_monitor_side}
use Rattle.redirect.specs.declared.redirect.Redirect.{Redirect}
use Rattle.redirect.specs.Meaning.{IsServed}
use Rattle.redirect.specs.Next.{has_sector, request_of}
use Rattle.redirect.specs.Read.{sector_in}
use Rattle.schedule_text.specs.declared.Item.TheVariants as item
use Rattle.monitor_state.specs.declared.state.State.TheVariants.{Monitor}
use Rattle.monitor_state.specs.declared.parts.Parts.{Parts}
use Rattle.monitor_state.specs.declared.held.HeldPiece.{HeldPiece}
use Rattle.monitor_state.specs.State.{is_opened, range_of}
use Rattle.monitor_state.specs.Drive.{RestsIn}
use Rattle.monitor_state.specs.Hand.{HasInHand, IsRedirected, IsWanted}
use Rattle.monitor_state.specs.Pieces.{ends_before, piece_let_go, tidied}
use Rattle.monitor_state.specs.Fits.{Fits}
use Rattle.monitor_state.specs.GoesOn.{GoesOn}
use Rattle.monitor_state.specs.Sectors.{IsPieceOf}
use Rattle.monitor_state.specs.Seen.{Shows, is_refused_in}
use Rattle.monitor_state.proofs.LetGo.{tidied_area, tidied_leased}
use Rattle.monitor_state.proofs.Served.{StandsAt, moved_on}
use Rattle.monitor_state.proofs.Kept.{same_area, same_opening}
use Rattle.monitor_state.proofs.Shown.{beside_shown, same_refused, shown_beside}
use Rattle.streaming.specs.Monitor.{item_of}
use Rattle.streaming.specs.Told.{MayTell, command_told, tells_ready}
use Rattle.monitor_turn.specs.Told.{steps_told}
use Rattle.monitor_turn.specs.Turned.{HasTurned}
use Rattle.monitor_turn.specs.Work.{IsWorkedOn}
use Rattle.monitor_turn.proofs.Beside.{all_act_beside, went_beside}
use Rattle.monitor_turn.proofs.InHand.{held_unasked, read_unmattered, redirected_by}
use Rattle.streaming.proofs.Untold.{never_both}
use Rattle.monitor_turn.proofs.Told.{none_anew}

-- the view's drive rests on, where interrupt and nIEN of the view stay
rests_on : (phase : Phase) (v w : View) (d : Device) → w.file.pending ≡ v.file.pending
    → w.file.control ≡ v.file.control → is_in_reset phase ≡ false → RestsIn phase v d → RestsIn phase w d
rests_on Reset v w d pending control out rests = absurd cc
rests_on Idle v w d pending control out rests = record {
  rests = rests.rests;
  pending = rests.pending ∙ sym pending;
  masked = λ pends. rests.masked (sym pending ∙ pends) ∙ grind (arith, control);
}
rests_on (Busy order done) v w d pending control out rests = rests
rests_on (Ready order done left) v w d pending control out rests = rests

let_go_same : (ends : Bool) (p : Parts) → let q = if ends then piece_let_go p else p in
    (q.bitmap ≡ p.bitmap) × (q.id ≡ p.id)
let_go_same true p = (refl, refl)
let_go_same false p = (refl, refl)

same_bitmap : (phase : Phase) (p : Parts) → (tidied phase p).bitmap ≡ p.bitmap
same_bitmap Reset p = refl
same_bitmap Idle p = refl
same_bitmap (Busy (Good order) done) p = (let_go_same (ends_before (order.first + done) p.held) p).0
same_bitmap (Busy (Bad reason) done) p = refl
same_bitmap (Ready order done left) p = refl

same_id : (phase : Phase) (p : Parts) → (tidied phase p).id ≡ p.id
same_id Reset p = refl
same_id Idle p = refl
same_id (Busy (Good order) done) p = (let_go_same (ends_before (order.first + done) p.held) p).1
same_id (Busy (Bad reason) done) p = refl
same_id (Ready order done left) p = refl

not_reset : (resets : Bool) (phase : Phase) (p : Parts) → is_in_reset phase ≡ resets
    → (is_in_reset phase ≡ true → is_opened p ≡ false) → is_opened p ≡ true → resets ≡ false
not_reset true phase p is closed opened = absurd (let no = closed is in cc)
not_reset false phase p is closed opened = refl

some_held : (p : Parts) (request : Request) (sector : ℕ) (demand : Option Fetching) (piece : Option HeldPiece)
    → p.held ≡ piece → has_sector (range_of piece) sector ≡ true → IfSome demand (IsWanted p request sector)
    → demand ≡ None
some_held p request sector demand None is here wanted = absurd cc
some_held p request sector demand (Some held) is here wanted = held_unasked p request sector demand held wanted is

-- what the line of so many steps tells
told_by : (none : Bool) (steps : ℕ) → (none ≡ false → 0 < steps)
    → let told = if none then None else Some (item.Go steps) in
    (command_told told ≡ []) × (tells_ready told ≡ false) × MayTell told
told_by true steps some = (refl, refl, _)
told_by false steps some = (refl, refl, some refl)

told_steps : (steps : ℕ) → (command_told (steps_told steps) ≡ []) × (tells_ready (steps_told steps) ≡ false)
    × MayTell (steps_told steps)
told_steps steps = told_by (steps == 0) steps (λ some. grind (arith, some))

-- the view and the parts once sectors of the held piece have moved
pub scattered_fits : (side after : MonitorSide) (redirect : Redirect) (done n steps : ℕ) (p : Parts) (d : Device)
    → Fits (Monitor side) p d → is_opened p ≡ true → IsWorkedOn (view_held side) p redirect done
    → IsServed DmaIn (request_of redirect) (view_held side) (range_of p.held)
    → has_own after ≡ false
    → (view_held after).file ≡ record (view_held side).file { phase = Busy (Good (request_of redirect)) n }
    → FitsView (view_held after) p.area.sectors → done ≤ n → n ≤ (request_of redirect).count
    → HasTurned p d (Monitor after) (steps_told steps) (tidied (Busy (Good (request_of redirect)) n) p) d
scattered_fits side after redirect done n steps p d fits opened works served alone file view further most =
    let state = fits.parts.state in
    let v = view_held side in
    let w = view_held after in
    let request = request_of redirect in
    let phase = Busy (Good request) n in
    let q = tidied phase p in
    let at : w.file.phase ≡ phase = ap (λ (f : TaskFile). f.phase) file in
    let r : IsRedirected v p request done =
    redirected_by v p redirect request done works.phase works.redirect_is state.2 in
    let here : has_sector (range_of p.held) (request.first + done) ≡ true = grind (arith, served.here, works.phase) in
    let still_opened : is_opened q ≡ true =
    ap (λ o. not (is_some (next_in_opening o))) (same_opening phase p) ∙ opened in
    let stands : StandsAt w p request n = record {
      read = r.read;
      unreserved = r.unreserved;
      position = most;
      last = λ last. served.form_is;
      calm = λ form. ap (λ (f : TaskFile). f.pending) file ∙ r.calm form;
      unfailed = works.unfailed;
      unasked = some_held p request (request.first + done) p.client.demand p.held refl here r.asked;
    } in
    let told = told_steps steps in
    let out = not_reset (is_in_reset d.file.phase) d.file.phase p refl fits.device.1 opened in
    record {
      fits = record {
        parts = record {
          area = tidied_area phase p fits.parts.area;
          leased = tidied_leased phase (Monitor after) p fits.parts.leased;
          state = (
            alone,
            subst (λ (area : Area). FitsView w area.sectors) (sym (same_area phase p)) view,
            subst (λ phase. HasInHand phase w q) (sym at)
                (moved_on w p redirect done n works.redirect_is stands further r.held),
            record { opened = λ closed. absurd (let yes = still_opened in cc) },
          );
        };
        device = (
          rests_on d.file.phase v w d (ap (λ (f : TaskFile). f.pending) file)
              (ap (λ (f : TaskFile). f.control) file) out fits.device.0,
          λ resets. absurd (let no = out in cc),
        );
        sectors = fits.sectors ∙ ap (λ (area : Area). area.sectors) (sym (same_area phase p));
      };
      between = _;
      commands = told.0 ∙ none_anew d.file;
      ready = told.1 ∙ never_both (is_opened p) ∙ ap (λ b. not (is_opened p) && b) (opened ∙ sym still_opened);
      may = told.2;
      image = record {
        area = same_area phase p;
        id = same_id phase p;
        opening = λ _. same_opening phase p;
        bitmap = λ _. same_bitmap phase p;
      };
    }

goes_by : (none : Bool) (steps : ℕ) (q : Plain) → (none ≡ true → steps ≡ 0) → (none ≡ false → 0 < steps)
    → AllAct steps q
    → let told = if none then None else Some (item.Go steps) in
    ActsAlong (item_of told) q × (planned (item_of told) q ≡ went steps q)
goes_by true steps q zero some act = (_, ap (λ n. went n q) (sym (zero refl)))
goes_by false steps q zero some act = ((some refl, act, _), refl)

-- a plain drive goes along the steps that are told
goes_along : (steps : ℕ) (q : Plain) → AllAct steps q
    → ActsAlong (item_of (steps_told steps)) q × (planned (item_of (steps_told steps)) q ≡ went steps q)
goes_along steps q act =
    goes_by (steps == 0) steps q (λ none. grind (arith, none)) (λ some. grind (arith, some)) act

-- the sectors that have moved are steps of every plain drive that has those of the held piece
pub scattered_goes : (side after : MonitorSide) (redirect : Redirect) (done n steps : ℕ) (p : Parts) (d : Device)
    (memory left : List ℕ) → Fits (Monitor side) p d → IsWorkedOn (view_held side) p redirect done
    → (view_held after).file.phase ≡ Busy (Good (request_of redirect)) n
    → ((d g : Device) → IsPieceOf g p.pool p.held → plain (on_monitor_side (view_held after) d g) left
    ≡ went steps (plain (on_monitor_side (view_held side) d g) memory))
    → ((d g : Device) → IsPieceOf g p.pool p.held
    → AllAct steps (plain (on_monitor_side (view_held side) d g) memory))
    → GoesOn (Monitor side) p d memory (item_of (steps_told steps)) (Monitor after)
    (tidied (Busy (Good (request_of redirect)) n) p) d left
scattered_goes side after redirect done n steps p d memory left fits works at moved act = λ q shows agree.
    let request = request_of redirect in
    let phase = Busy (Good request) n in
    let r = tidied phase p in
    let old = plain (on_monitor_side (view_held side) d q.device) memory in
    let same : beside_command q ≡ beside_command old =
    shown_beside (view_held side) d q shows.file shows.bus
    ∙ ap (λ (bytes : List ℕ). beside_command (plain (on_monitor_side (view_held side) d q.device) bytes))
    shows.memory_is in
    let unmattered =
    read_unmattered (view_held after).file.phase request n at
    (redirected_by (view_held side) p redirect request done works.phase works.redirect_is fits.parts.state.2).read in
    let told = goes_along steps q (all_act_beside steps old q same (act d q.device agree.held)) in (
      told.0,
      subst (Shows (Monitor after) r d left) (sym told.1)
          (beside_shown (Monitor after) r (view_held after) d (went steps q) (plain q.device left) refl refl
          (went_beside steps old q same ∙ ap beside_command (sym (moved d q.device agree.held)))
          (λ matters. absurd (let no = unmattered in cc))
          (shows.sectors ∙ ap (λ (area : Area). area.sectors) (sym (same_area phase p)))
          (ap (λ (phase : Phase). is_refused_in phase r) at
          ∙ same_refused phase p r (same_area phase p) (same_bitmap phase p)
          ∙ ap (λ (phase : Phase). is_refused_in phase p) (sym works.phase) ∙ shows.served)),
    )

-- positions that lie so by their sectors
pub further : (phase after : Phase) (request : Request) (done n : ℕ) → phase ≡ Busy (Good request) done
    → after ≡ Busy (Good request) n → sector_in phase ≤ sector_in after → done ≤ n
further phase after request done n at is low =
    let first : request.first + done ≤ request.first + n =
    subst (λ after. sector_in (Busy (Good request) done) ≤ sector_in after) is
    (subst (λ phase. sector_in phase ≤ sector_in after) at low) in
    omega (arith, first)

pub inside : (phase after : Phase) (request : Request) (done n : ℕ) → phase ≡ Busy (Good request) done
    → after ≡ Busy (Good request) n → sector_in after ≤ end_of phase → n ≤ request.count
inside phase after request done n at is low =
    let last : request.first + n ≤ request.first + request.count =
    subst (λ after. sector_in after ≤ end_of (Busy (Good request) done)) is
    (subst (λ phase. sector_in after ≤ end_of phase) at low) in
    omega (arith, last)
