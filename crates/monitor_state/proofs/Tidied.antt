-- What is let go in each phase.
use Rattle.std.proofs.Common.{◌≡◌, ℕ, ◌+◌, Bool, false, if◌then◌else◌, Option, Some, None, refl, ap, ◌∙◌}
use Rattle.std.specs.Prelude.{IfSome}
use Rattle.std.proofs.lemmas.Bool.{lt-leb}
use Rattle.ata_taskfile.specs.declared.Request.{Request}
use Rattle.ata_taskfile.specs.declared.Taken.{Taken}
use Rattle.ata_taskfile.specs.declared.Taken.TheVariants.{Good, Bad}
use Rattle.ata_taskfile.specs.declared.Phase.TheVariants.{Busy}
use Rattle.port_lease.specs.declared.view.View.{View}
use Rattle.redirect.specs.declared.redirect.Redirect.{Redirect}
use Rattle.redirect.specs.Next.{request_of}
use Rattle.monitor_state.specs.declared.held.HeldPiece.{HeldPiece}
use Rattle.monitor_state.specs.declared.parts.Parts.{Parts}
use Rattle.monitor_state.specs.State.{end_of_piece}
use Rattle.monitor_state.specs.Pieces.{ends_before, piece_let_go, tidied}
use Rattle.monitor_state.specs.Hand.{HoldsSector, WorksOn}

-- the first sector of an order; 0 of a refused one
abbrev pub first_in : Taken → ℕ
first_in (Good request) = request.first
first_in (Bad reason) = 0

-- a piece that has a sector doesn't end before it
pub stays_held : (p : Parts) (request : Request) (sector : ℕ) (piece : Option HeldPiece)
    → IfSome piece (HoldsSector p request sector) → ends_before sector piece ≡ false
stays_held p request sector None holds = refl
stays_held p request sector (Some held) holds = lt-leb (end_of_piece held) sector holds.ahead

ends_later : (redirect : Option Redirect) (v : View) (p : Parts) (order : Request) (done : ℕ)
    → WorksOn redirect v p (Good order) done → ends_before (order.first + done) p.held ≡ false
ends_later None v p order done works = ap (ends_before (order.first + done)) works.0.held
ends_later (Some redirect) v p order done works =
    let request = request_of redirect in
    ap (λ first. ends_before (first + done) p.held) (ap first_in works.0)
    ∙ stays_held p request (request.first + done) p.held works.1.held

-- nothing is let go while an order is in hand and stands
pub works_untidied : (v : View) (p : Parts) (order : Taken) (done : ℕ) → WorksOn p.hand.redirect v p order done
    → tidied (Busy order done) p ≡ p
works_untidied v p (Bad reason) done works = refl
works_untidied v p (Good order) done works =
    ap (λ (ends : Bool). if ends then piece_let_go p else p) (ends_later p.hand.redirect v p order done works)
