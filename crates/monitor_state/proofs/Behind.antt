-- What no turn asks for again stays so while a read goes on.
use Rattle.std.proofs.Common.{◌≡◌, ℕ, ◌+◌, ◌-◌, ◌≤◌, Bool, true, false, if◌then◌else◌, Option, Some, None, refl, sym, ap, subst, arith}
use Rattle.std.specs.Prelude.{nat_lt}
use Rattle.std.proofs.lemmas.Bool.{leb-true}
use Rattle.ata_taskfile.specs.declared.Reg.{Reg}
use Rattle.ata_taskfile.specs.declared.Access.{Access}
use Rattle.ata_taskfile.specs.declared.Access.TheVariants as access
use Rattle.ata_taskfile.specs.declared.Request.{Request}
use Rattle.ata_taskfile.specs.declared.Taken.{Taken}
use Rattle.ata_taskfile.specs.declared.Taken.TheVariants.{Good}
use Rattle.ata_taskfile.specs.declared.Phase.{Phase}
use Rattle.ata_taskfile.specs.declared.Phase.TheVariants.{Reset, Idle, Busy, Ready}
use Rattle.ata_taskfile.specs.declared.task_file.TaskFile.{TaskFile}
use Rattle.ata_taskfile.specs.Data.{gives_words, phase_after_read}
use Rattle.aoe_client.specs.Fetching.{Fetching}
use Rattle.plain_drive.specs.Alike.{gives_command}
use Rattle.port_lease.specs.declared.view.View.{View}
use Rattle.guest_view.specs.Fits.{FitsView}
use Rattle.guest_view.specs.View.{is_reset, takes_command, view_after}
use Rattle.redirect.specs.declared.redirect.Redirect.{Redirect}
use Rattle.redirect.specs.Next.{request_of}
use Rattle.monitor_state.specs.declared.held.HeldPiece.{HeldPiece}
use Rattle.monitor_state.specs.declared.parts.Parts.{Parts}
use Rattle.monitor_state.specs.Hand.{HasInHand, Serves}
use Rattle.monitor_state.specs.Pieces.{ends_before, piece_let_go, tidied}
use Rattle.monitor_state.specs.Requests.{IsPast, IsPastIn, obtained_to}
use Rattle.monitor_state.specs.State.{end_of_piece}
use Rattle.monitor_state.proofs.Phases.{read_stays, unwanted_stays, write_stays}
use Rattle.monitor_state.proofs.Tidied.{works_untidied}

further_obtained : (block : ℕ) (demand : Option Fetching) (held : Option HeldPiece) (s to : ℕ) → s ≤ to
    → obtained_to block demand held s ≤ obtained_to block demand held to
further_obtained block (Some f) held s to further = omega arith
further_obtained block None (Some held) s to further = omega arith
further_obtained block None None s to further = further

let_go_obtained : (block : ℕ) (demand : Option Fetching) (held : Option HeldPiece) (s to : ℕ)
    → ends_before to held ≡ true → obtained_to block demand held s ≤ obtained_to block demand None to
let_go_obtained block (Some f) held s to ends = omega arith
let_go_obtained block None (Some held) s to ends = leb-true (end_of_piece held) to ends
let_go_obtained block None None s to ends = absurd cc

-- further on a read has obtained no less, also where the piece that ends there is let go
past_where : (ends : Bool) (redirect : Option Redirect) (p : Parts) (done to tag first : ℕ) → done ≤ to
    → ((r : Redirect) → redirect ≡ Some r → first ≡ (request_of r).first)
    → ends_before (first + to) p.held ≡ ends → IsPast redirect p done tag
    → IsPast redirect (if ends then piece_let_go p else p) to tag
past_where ends None p done to tag first further is at past = absurd past
past_where true (Some r) p done to tag first further is at past =
    let same = is r refl in
    let rise = let_go_obtained p.area.block p.client.demand p.held ((request_of r).first + done)
    ((request_of r).first + to) (subst (λ n. ends_before (n + to) p.held ≡ true) same at) in
    omega (arith, past, rise)
past_where false (Some r) p done to tag first further is at past =
    let rise = further_obtained p.area.block p.client.demand p.held ((request_of r).first + done)
    ((request_of r).first + to) (omega (arith, further)) in
    omega (arith, past, rise)

past_hand : (ends : Bool) (redirect : Option Redirect) (p : Parts) (to tag : ℕ) → p.hand.redirect ≡ redirect
    → IsPast redirect (if ends then piece_let_go p else p) to tag
    → let q = if ends then piece_let_go p else p in IsPast q.hand.redirect q to tag
past_hand true redirect p to tag hand past = subst (λ o. IsPast o (piece_let_go p) to tag) (sym hand) past
past_hand false redirect p to tag hand past = subst (λ o. IsPast o p to tag) (sym hand) past

-- so it is once the parts are tidied there
pub past_further : (redirect : Option Redirect) (p : Parts) (request : Request) (done to tag : ℕ)
    → p.hand.redirect ≡ redirect → ((r : Redirect) → redirect ≡ Some r → request ≡ request_of r) → done ≤ to
    → IsPast redirect p done tag → IsPastIn (Busy (Good request) to) (tidied (Busy (Good request) to) p) tag
past_further redirect p request done to tag hand is further past =
    let ends = ends_before (request.first + to) p.held in
    past_hand ends redirect p to tag hand
    (past_where ends redirect p done to tag request.first further
    (λ r named. ap (λ (x : Request). x.first) (is r named)) refl past)

past_read : (gives some more : Bool) (redirect : Redirect) (p : Parts) (done left tag : ℕ)
    → p.hand.redirect ≡ Some redirect → IsPast (Some redirect) p done tag
    → let request = request_of redirect in
    let over = if more then Busy (Good request) (done + 1) else Idle in
    let next = if some then Ready (Good request) done (left - 1) else over in
    let phase = if gives then next else Ready (Good request) done left in IsPastIn phase (tidied phase p) tag
past_read false some more redirect p done left tag hand past = subst (λ o. IsPast o p done tag) (sym hand) past
past_read true true more redirect p done left tag hand past = subst (λ o. IsPast o p done tag) (sym hand) past
past_read true false true redirect p done left tag hand past =
    past_further (Some redirect) p (request_of redirect) done (done + 1) tag hand
    (λ r named. let same : redirect ≡ r = cc in ap request_of same) (omega arith) past
past_read true false false redirect p done left tag hand past = tt

past_served : (redirect : Option Redirect) (p : Parts) (order : Taken) (done left tag : ℕ)
    → p.hand.redirect ≡ redirect → Serves redirect p order done → IsPast redirect p done tag
    → let phase = phase_after_read (Ready order done left) in IsPastIn phase (tidied phase p) tag
past_served None p order done left tag hand serves past = absurd serves
past_served (Some redirect) p order done left tag hand serves past =
    let request = request_of redirect in
    subst (λ order. let phase = phase_after_read (Ready order done left) in IsPastIn phase (tidied phase p) tag)
    (sym serves.0)
    (past_read (gives_words request.form) (nat_lt 1 left) (nat_lt (done + 1) request.count) redirect p done left tag
    hand past)

past_word : (phase : Phase) (v : View) (p : Parts) (tag : ℕ) → HasInHand phase v p → IsPastIn phase p tag
    → IsPastIn (phase_after_read phase) (tidied (phase_after_read phase) p) tag
past_word Reset v p tag has past = tt
past_word Idle v p tag has past = tt
past_word (Busy order done) v p tag has past =
    subst (λ (q : Parts). IsPast q.hand.redirect q done tag) (sym (works_untidied v p order done has)) past
past_word (Ready order done left) v p tag has past =
    past_served p.hand.redirect p order done left tag refl has past

past_tidied : (phase : Phase) (v : View) (p : Parts) (tag : ℕ) → HasInHand phase v p → IsPastIn phase p tag
    → IsPastIn phase (tidied phase p) tag
past_tidied Reset v p tag has past = tt
past_tidied Idle v p tag has past = tt
past_tidied (Busy order done) v p tag has past =
    subst (λ (q : Parts). IsPast q.hand.redirect q done tag) (sym (works_untidied v p order done has)) past
past_tidied (Ready order done left) v p tag has past = past

past_stays : (a : Access) (n : ℕ) (v : View) (p : Parts) (tag : ℕ) → HasInHand v.file.phase v p
    → (view_after a n v).file.phase ≡ v.file.phase → IsPastIn v.file.phase p tag
    → let w = view_after a n v in IsPastIn w.file.phase (tidied w.file.phase p) tag
past_stays a n v p tag has is past =
    subst (λ phase. IsPastIn phase (tidied phase p) tag) (sym is) (past_tidied v.file.phase v p tag has past)

takes_none : (r : Reg) (x : ℕ) (f : TaskFile) → gives_command (access.Write8 r x) f ≡ false
    → takes_command (access.Write8 r x) f ≡ false
takes_none r x f none = grind arith

-- behind each access that takes no command and begins no reset
pub viewed_past : (a : Access) (n : ℕ) (v : View) (p : Parts) (tag : ℕ) → FitsView v n → is_reset a ≡ false
    → gives_command a v.file ≡ false → HasInHand v.file.phase v p → IsPastIn v.file.phase p tag
    → let w = view_after a n v in IsPastIn w.file.phase (tidied w.file.phase p) tag
viewed_past (access.Read8 r) n v p tag fits runs none has past =
    past_stays (access.Read8 r) n v p tag has (read_stays r v.file) past
viewed_past (access.Write8 r x) n v p tag fits runs none has past =
    past_stays (access.Write8 r x) n v p tag has (write_stays r x n v runs (takes_none r x v.file none)) past
viewed_past access.ReadWord n v p tag fits runs none has past = past_word v.file.phase v p tag has past
viewed_past (access.WriteWord x) n v p tag fits runs none has past =
    past_stays (access.WriteWord x) n v p tag has (unwanted_stays v.file.phase fits.served) past
viewed_past access.ReadPointer n v p tag fits runs none has past = past_stays access.ReadPointer n v p tag has refl past
viewed_past (access.WritePointer x) n v p tag fits runs none has past =
    past_stays (access.WritePointer x) n v p tag has refl past
viewed_past access.Line n v p tag fits runs none has past = past_stays access.Line n v p tag has refl past
