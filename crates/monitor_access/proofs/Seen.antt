-- What the plain drive that the guest sees answers, and which of its commands is marked.
use Rattle.std.proofs.Common.{◌≡◌, ℕ, true, List, Option, Some, None, refl, sym, ap, ◌∙◌}
use Rattle.std.specs.Prelude.{IsSomeAnd}
use Rattle.ata_taskfile.specs.declared.Access.{Access}
use Rattle.ata_taskfile.specs.declared.Answer.{Answer}
use Rattle.ata_taskfile.specs.declared.Form.TheVariants.{PioIn}
use Rattle.ata_taskfile.specs.declared.Request.{Request}
use Rattle.ata_taskfile.specs.declared.Taken.{Taken}
use Rattle.ata_taskfile.specs.declared.Taken.TheVariants.{Good}
use Rattle.ata_taskfile.specs.declared.Phase.{Phase}
use Rattle.ata_taskfile.specs.declared.Phase.TheVariants.{Reset, Idle, Busy, Ready}
use Rattle.ata_taskfile.specs.declared.task_file.TaskFile.{TaskFile}
use Rattle.ata_taskfile.specs.Access.{answer_to}
use Rattle.ata_taskfile.specs.Data.{word_in}
use Rattle.ata_taskfile.specs.Device.{Device}
use Rattle.mon_pool.specs.Region.{Region}
use Rattle.plain_drive.specs.Alike.{block_matters, without_command}
use Rattle.plain_drive.specs.Plain.{Plain}
use Rattle.port_lease.specs.declared.view.View.{View}
use Rattle.port_lease.specs.Seen.{bus_beside, on_guest_side}
use Rattle.port_lease.specs.Sides.{view_held, view_kept}
use Rattle.guest_view.specs.Seen.{on_monitor_side}
use Rattle.redirect.specs.declared.redirect.Redirect.{Redirect}
use Rattle.redirect.specs.Next.{request_of}
use Rattle.monitor_state.specs.declared.held.HeldPiece.{HeldPiece}
use Rattle.monitor_state.specs.declared.state.State.{State}
use Rattle.monitor_state.specs.declared.state.State.TheVariants.{Guest, Monitor, Running, Raising, Moving}
use Rattle.monitor_state.specs.declared.parts.Parts.{Parts}
use Rattle.monitor_state.specs.Fits.{Fits}
use Rattle.monitor_state.specs.Hand.{HasInHand, Serves}
use Rattle.monitor_state.specs.Pieces.{word_offered}
use Rattle.monitor_state.specs.Seen.{Shows, block_offered}
use Rattle.monitor_access.specs.Marks.{mark_over}
use Rattle.monitor_access.specs.Seen.{IsAnswered, IsViews}
use Rattle.monitor_access.proofs.Beside.{answers_as}

piece_word : (held : Option HeldPiece) (P : HeldPiece → Type 0) (request : Request) (done left : ℕ) (pool : Region)
    → request.form ≡ PioIn → IsSomeAnd held P
    → word_in (Ready (Good request) done left) (block_offered (Ready (Good request) done left) held pool)
    ≡ word_offered (Ready (Good request) done left) held pool
piece_word None P request done left pool form some = absurd some
piece_word (Some held) P request done left pool form some = rw form refl

served_word : (redirect : Option Redirect) (p : Parts) (order : Taken) (done left : ℕ) → Serves redirect p order done
    → word_in (Ready order done left) (block_offered (Ready order done left) p.held p.pool)
    ≡ word_offered (Ready order done left) p.held p.pool
served_word None p order done left serves = absurd serves
served_word (Some redirect) p order done left serves =
    rw serves.0 (piece_word p.held _ (request_of redirect) done left p.pool serves.1.form serves.1.held)

-- the word of a block that is offered is the held piece's
words_offered : (phase : Phase) (v : View) (p : Parts) → HasInHand phase v p
    → word_in phase (block_offered phase p.held p.pool) ≡ word_offered phase p.held p.pool
words_offered Reset v p has = refl
words_offered Idle v p has = refl
words_offered (Busy order done) v p has = refl
words_offered (Ready order done left) v p has = served_word p.hand.redirect p order done left has

-- on the monitor's side
viewed_answer : (v : View) (p : Parts) (d : Device) (q : Plain) (a : Access) (answer : Answer)
    → HasInHand v.file.phase v p → without_command q.device.file ≡ without_command v.file
    → q.device.bus ≡ bus_beside v.bus d.bus
    → (block_matters v.file.phase ≡ true → q.device.block ≡ block_offered v.file.phase p.held p.pool)
    → IsViews v p d a answer → answer ≡ answer_to a q.device
viewed_answer v p d q a answer has file bus block views =
    let g : Device = record q.device { block = block_offered v.file.phase p.held p.pool } in
    views g (λ reads. words_offered v.file.phase v p has)
    ∙ sym (answers_as (on_monitor_side v d g) q file bus block refl a)

-- an answer is that of the plain drive which the guest sees
pub answered_alike : (s : State) (p : Parts) (d : Device) (memory : List ℕ) (q : Plain) (a : Access) (answer : Answer)
    → Fits s p d → Shows s p d memory q → IsAnswered s p d a answer → answer ≡ answer_to a q.device
answered_alike (Guest side) p d memory q a answer fits shows is =
    is ∙ sym (answers_as (on_guest_side (view_kept side) d) q shows.file shows.bus shows.block
    (shows.sectors ∙ sym fits.sectors) a)
answered_alike (Monitor side) p d memory q a answer fits shows is =
    viewed_answer (view_held side) p d q a answer fits.parts.state.2 shows.file shows.bus shows.block is
answered_alike (Running side own why) p d memory q a answer fits shows is =
    viewed_answer (view_held side) p d q a answer fits.parts.state.2 shows.file shows.bus shows.block is
answered_alike (Raising side dummy planned) p d memory q a answer fits shows is =
    viewed_answer (view_held side) p d q a answer fits.parts.state.2 shows.file shows.bus shows.block is
answered_alike Moving p d memory q a answer fits shows is = absurd is

-- a mark is told by the registers but for the byte of the last command
pub marked_alike : (f g : TaskFile) (p : Parts) (a : Access) → without_command f ≡ without_command g
    → mark_over g p a ≡ mark_over f p a
marked_alike f g p a same = ap (λ h. mark_over h p a) (sym same)
