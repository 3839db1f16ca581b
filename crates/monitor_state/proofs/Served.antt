-- A held piece is served: the command moves on in it, and it goes with its last sector.
use Rattle.std.proofs.Common.{◌≡◌, ℕ, ◌+◌, ◌-◌, ◌<◌, ◌≤◌, Bool, true, false, if◌then◌else◌, Option, Some, None, refl, sym, ap, ◌∙◌, subst, arith}
use Rattle.std.specs.Prelude.{IfSome, IsSomeAnd, nat_lt}
use Rattle.std.proofs.lemmas.Bool.{leb-false, ltb-true, true≢false}
use Rattle.ata_taskfile.specs.declared.Form.TheVariants.{PioIn, DmaIn}
use Rattle.ata_taskfile.specs.declared.Request.{Request}
use Rattle.ata_taskfile.specs.declared.Taken.{Taken}
use Rattle.ata_taskfile.specs.declared.Taken.TheVariants.{Good}
use Rattle.ata_taskfile.specs.declared.Phase.{Phase}
use Rattle.ata_taskfile.specs.declared.Phase.TheVariants.{Reset, Idle, Busy, Ready}
use Rattle.ata_taskfile.specs.Data.{gives_words, block_read, word_given, phase_after_read}
use Rattle.io_interpret.specs.Class.{reaches_reserved}
use Rattle.port_lease.specs.declared.view.View.{View}
use Rattle.redirect.specs.declared.redirect.Redirect.{Redirect}
use Rattle.redirect.specs.Next.{request_of}
use Rattle.redirect.specs.Read.{IsRead}
use Rattle.monitor_state.specs.declared.held.HeldPiece.{HeldPiece}
use Rattle.monitor_state.specs.declared.parts.Parts.{Parts}
use Rattle.monitor_state.specs.State.{end_of_piece}
use Rattle.monitor_state.specs.Pieces.{ends_before, piece_let_go, tidied}
use Rattle.monitor_state.specs.Hand.{HasInHand, HoldsSector, IsRedirected, IsServing, IsWanted, Serves, WorksOn}
use Rattle.monitor_state.proofs.InHand.{Calms, same_phase}

pub pio_is_not_dma : PioIn ≡ DmaIn → ⊥
pio_is_not_dma same = cc

-- a read stands at a position, with nothing asked and no failure
pub record StandsAt (w : View) (p : Parts) (request : Request) (done : ℕ) : Type 0 where
  pub read : IsRead request
  pub unreserved : reaches_reserved request p.area ≡ false
  pub position : done ≤ request.count
  pub last : done ≡ request.count → request.form ≡ DmaIn
  pub calm : request.form ≡ DmaIn → w.file.pending ≡ false
  pub unfailed : p.hand.failed ≡ false
  pub unasked : p.client.demand ≡ None

pub if_none : {T : Type 0} (P : T → Type 0) (o : Option T) → o ≡ None → IfSome o P
if_none P o none = subst (λ o. IfSome o P) (sym none) tt

-- a piece that doesn't end before a sector further on has that sector
still_held : (p : Parts) (request : Request) (from to : ℕ) (piece : Option HeldPiece) → from ≤ to
    → IfSome piece (HoldsSector p request from) → ends_before to piece ≡ false → IfSome piece (HoldsSector p request to)
still_held p request from to None further holds ends = holds
still_held p request from to (Some held) further holds ends = record {
  from = omega (arith, further, holds.from);
  ahead = leb-false (end_of_piece held) to ends;
  within = holds.within;
  base = holds.base;
  room = holds.room;
}

module _ (w : View) (p : Parts) (redirect : Redirect) (from to : ℕ) (is : p.hand.redirect ≡ Some redirect)
    (stands : StandsAt w p (request_of redirect) to) (further : from ≤ to)
    (holds : IfSome p.held (HoldsSector p (request_of redirect) ((request_of redirect).first + from))) where
  let_go_at : IsRedirected w (piece_let_go p) (request_of redirect) to
  let_go_at = record {
    read = stands.read;
    unreserved = stands.unreserved;
    position = stands.position;
    last = stands.last;
    calm = stands.calm;
    held = tt;
    asked = if_none (IsWanted (piece_let_go p) (request_of redirect) ((request_of redirect).first + to))
        p.client.demand stands.unasked;
    failed = λ failed. absurd (true≢false (sym failed ∙ stands.unfailed));
  }

  held_at : ends_before ((request_of redirect).first + to) p.held ≡ false → IsRedirected w p (request_of redirect) to
  held_at ends = record {
    read = stands.read;
    unreserved = stands.unreserved;
    position = stands.position;
    last = stands.last;
    calm = stands.calm;
    held = still_held p (request_of redirect) ((request_of redirect).first + from) ((request_of redirect).first + to)
        p.held (omega (arith, further)) holds ends;
    asked = if_none (IsWanted p (request_of redirect) ((request_of redirect).first + to)) p.client.demand
        stands.unasked;
    failed = λ failed. absurd (true≢false (sym failed ∙ stands.unfailed));
  }

  at_either : (ends : Bool) → ends_before ((request_of redirect).first + to) p.held ≡ ends
      → HasInHand (Busy (Good (request_of redirect)) to) w (if ends then piece_let_go p else p)
  at_either true ends =
      subst (λ r. WorksOn r w (piece_let_go p) (Good (request_of redirect)) to) (sym is) (refl, let_go_at)
  at_either false ends = subst (λ r. WorksOn r w p (Good (request_of redirect)) to) (sym is) (refl, held_at ends)

  -- the read is in hand there once the parts are tidied
  pub moved_on : HasInHand (Busy (Good (request_of redirect)) to) w (tidied (Busy (Good (request_of redirect)) to) p)
  moved_on = at_either (ends_before ((request_of redirect).first + to) p.held) refl

-- where some piece holds, it holds if there is one
pub if_some : {T : Type 0} (P : T → Type 0) (o : Option T) → IsSomeAnd o P → IfSome o P
if_some P None holds = absurd holds
if_some P (Some x) holds = holds

module _ (w : View) (p : Parts) (redirect : Redirect) (done left : ℕ) (is : p.hand.redirect ≡ Some redirect)
    (serves : IsServing p (request_of redirect) done) where
  stands_next : done + 1 < (request_of redirect).count → StandsAt w p (request_of redirect) (done + 1)
  stands_next below = record {
    read = serves.read;
    unreserved = serves.unreserved;
    position = omega (arith, below);
    last = λ last. absurd (omega (arith, below, last));
    calm = λ form. absurd (pio_is_not_dma (sym serves.form ∙ form));
    unfailed = serves.unfailed;
    unasked = serves.unasked;
  }

  -- behind the last word of a block the next sector is due, or the command has ended
  block_over : (more : Bool) → nat_lt (done + 1) (request_of redirect).count ≡ more
      → let phase = if more then Busy (Good (request_of redirect)) (done + 1) else Idle in
      HasInHand phase w (tidied phase p)
  block_over true more = moved_on w p redirect done (done + 1) is
      (stands_next (ltb-true (done + 1) (request_of redirect).count more)) (omega arith)
      (if_some (HoldsSector p (request_of redirect) ((request_of redirect).first + done)) p.held serves.held)
  block_over false more = record { redirect = refl; failed = refl; held = refl; asked = serves.unasked }

  -- a word of the block is read
  word_read : (some : Bool) → let phase = if some then Ready (Good (request_of redirect)) done (left - 1)
      else block_read (request_of redirect) done in HasInHand phase w (tidied phase p)
  word_read true = subst (λ r. Serves r p (Good (request_of redirect)) done) (sym is) (refl, serves)
  word_read false = block_over (nat_lt (done + 1) (request_of redirect).count) refl

  word_given_next : let phase = phase_after_read (Ready (Good (request_of redirect)) done left) in
      HasInHand phase w (tidied phase p)
  word_given_next =
      subst (λ (gives : Bool). let phase = if gives then word_given (request_of redirect) done left
      else Ready (Good (request_of redirect)) done left in HasInHand phase w (tidied phase p))
      (sym (ap gives_words serves.form)) (word_read (nat_lt 1 left))

served_next : (w : View) (p : Parts) (redirect : Option Redirect) (order : Taken) (done left : ℕ)
    → p.hand.redirect ≡ redirect → Serves redirect p order done
    → let phase = phase_after_read (Ready order done left) in HasInHand phase w (tidied phase p)
served_next w p None order done left is serves = absurd serves
served_next w p (Some redirect) order done left is serves =
    subst (λ order. let phase = phase_after_read (Ready order done left) in HasInHand phase w (tidied phase p))
    (sym serves.0) (word_given_next w p redirect done left is serves.1)

-- a read of Data leaves in hand what its phase asks for
pub after_word : (phase : Phase) (v w : View) (p : Parts) → Calms v w → HasInHand phase v p
    → HasInHand (phase_after_read phase) w (tidied (phase_after_read phase) p)
after_word Reset v w p calms has = same_phase Reset v w p calms has
after_word Idle v w p calms has = same_phase Idle v w p calms has
after_word (Busy order done) v w p calms has = same_phase (Busy order done) v w p calms has
after_word (Ready order done left) v w p calms has = served_next w p p.hand.redirect order done left refl has
