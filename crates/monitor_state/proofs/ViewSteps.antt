-- What is in hand after the view's own steps, and once sectors moved.
use Rattle.std.proofs.Common.{◌≡◌, ℕ, ◌+◌, ◌<◌, ◌≤◌, ◌==◌, Bool, true, false, Option, Some, None, refl, sym, ap, ◌∙◌, subst, arith}
use Rattle.std.specs.Prelude.{IfSome, IsSomeAnd, is_some}
use Rattle.std.proofs.lemmas.Bool.{true≢false}
use Rattle.ata_taskfile.specs.declared.Form.{Form}
use Rattle.ata_taskfile.specs.declared.Form.TheVariants.{PioIn, DmaIn}
use Rattle.ata_taskfile.specs.declared.Request.{Request}
use Rattle.ata_taskfile.specs.declared.Taken.{Taken}
use Rattle.ata_taskfile.specs.declared.Taken.TheVariants.{Good, Bad}
use Rattle.ata_taskfile.specs.declared.Phase.{Phase}
use Rattle.ata_taskfile.specs.declared.Phase.TheVariants.{Reset, Idle, Busy, Ready}
use Rattle.ata_taskfile.specs.Lawful.{is_in_reset, is_just_taken}
use Rattle.aoe_client.specs.Fetching.{Fetching}
use Rattle.port_lease.specs.declared.view.View.{View}
use Rattle.redirect.specs.declared.redirect.Redirect.{Redirect}
use Rattle.redirect.specs.Next.{end_of_read, request_of}
use Rattle.monitor_state.specs.declared.held.HeldPiece.{HeldPiece}
use Rattle.monitor_state.specs.declared.state.Plan.TheVariants as plan
use Rattle.monitor_state.specs.declared.parts.Parts.{Parts}
use Rattle.monitor_state.specs.State.{end_of_piece}
use Rattle.monitor_state.specs.Pieces.{no_hand, tidied}
use Rattle.monitor_state.specs.Hand.{HasInHand, HoldsSector, IsEmptyHanded, IsRedirected, IsServing, IsWanted, Serves, WorksOn}
use Rattle.monitor_state.specs.Fits.{FitsPlan}
use Rattle.monitor_state.proofs.Served.{StandsAt, moved_on, pio_is_not_dma}
use Rattle.monitor_state.proofs.Tidied.{first_in}

-- the hand is empty when a reset ends
pub reset_in_hand : (phase : Phase) (v : View) (p : Parts) → is_in_reset phase ≡ true → HasInHand phase v p
    → IsEmptyHanded p
reset_in_hand Reset v p resets has = has.0
reset_in_hand Idle v p resets has = absurd cc
reset_in_hand (Busy order done) v p resets has = absurd cc
reset_in_hand (Ready order done left) v p resets has = absurd cc

some_not_none : {T : Type 0} (o : Option T) → is_some o ≡ true → o ≡ None → ⊥
some_not_none o some none = true≢false (sym some ∙ ap is_some none)

-- nothing is asked while a piece is held
unasked_of : (p : Parts) (request : Request) (sector : ℕ) (asked : Option Fetching) → is_some p.held ≡ true
    → IfSome asked (IsWanted p request sector) → asked ≡ None
unasked_of p request sector None held wanted = refl
unasked_of p request sector (Some fetching) held wanted = absurd (some_not_none p.held held wanted.unheld)

unfailed_of : (failed : Bool) (v : View) (p : Parts) (request : Request) (done : ℕ) → p.hand.failed ≡ failed
    → is_some p.held ≡ true → IsRedirected v p request done → p.hand.failed ≡ false
unfailed_of true v p request done is held at = absurd (some_not_none p.held held (at.failed is).1)
unfailed_of false v p request done is held at = is

held_of : (P : HeldPiece → Type 0) (piece : Option HeldPiece) → is_some piece ≡ true → IfSome piece P
    → IsSomeAnd piece P
held_of P None held holds = absurd (true≢false (sym held))
held_of P (Some piece) held holds = holds

below_of : (request : Request) (done : ℕ) → request.form ≡ PioIn → done ≤ request.count
    → (done ≡ request.count → request.form ≡ DmaIn) → done < request.count
below_of request done form position last = grind (arith, pio_is_not_dma)

serving_of : (v : View) (p : Parts) (request : Request) (done : ℕ) → request.form ≡ PioIn → is_some p.held ≡ true
    → IsRedirected v p request done → IsServing p request done
serving_of v p request done form held at = record {
  read = at.read;
  unreserved = at.unreserved;
  form = form;
  below = below_of request done form at.position at.last;
  unfailed = unfailed_of p.hand.failed v p request done refl held at;
  unasked = unasked_of p request (request.first + done) p.client.demand held at.asked;
  held = held_of (HoldsSector p request (request.first + done)) p.held held at.held;
}

same_form : (order request : Request) (form : Form) → Good order ≡ Good request → order.form ≡ form
    → request.form ≡ form
same_form order request form is has = cc

serves_of : (redirect : Option Redirect) (v : View) (p : Parts) (order : Request) (done : ℕ) → order.form ≡ PioIn
    → is_some p.held ≡ true → is_some redirect ≡ true → WorksOn redirect v p (Good order) done
    → Serves redirect p (Good order) done
serves_of None v p order done form held some works = absurd (true≢false (sym some))
serves_of (Some redirect) v p order done form held some works =
    let same = same_form order (request_of redirect) PioIn works.0 form in
    (works.0, serving_of v p (request_of redirect) done same held works.1)

-- a block of the held piece is offered
pub offered_in_hand : (v : View) (p : Parts) (order : Request) (done : ℕ) → order.form ≡ PioIn
    → is_some p.held ≡ true → is_some p.hand.redirect ≡ true → HasInHand (Busy (Good order) done) v p
    → Serves p.hand.redirect p (Good order) done
offered_in_hand v p order done form held some has = serves_of p.hand.redirect v p order done form held some has

none_behind : (p : Parts) (request : Request) (sector : ℕ) (piece : Option HeldPiece) → end_of_read request ≤ sector
    → IfSome piece (HoldsSector p request sector) → piece ≡ None
none_behind p request sector None behind holds = refl
none_behind p request sector (Some held) behind holds = absurd (omega (arith, behind, holds.ahead, holds.within))

none_wanted : (p : Parts) (request : Request) (sector : ℕ) (asked : Option Fetching) → end_of_read request ≤ sector
    → IfSome asked (IsWanted p request sector) → asked ≡ None
none_wanted p request sector None behind wanted = refl
none_wanted p request sector (Some fetching) behind wanted = absurd (omega (arith, behind, wanted.within))

count_of_order : (order request : Request) (done : ℕ) → Good order ≡ Good request → done ≡ order.count
    → done ≡ request.count
count_of_order order request done is all = cc

finished : (redirect : Option Redirect) (v : View) (p : Parts) (order : Request) (done : ℕ)
    → is_some redirect ≡ true → done ≡ order.count → WorksOn redirect v p (Good order) done
    → (p.held ≡ None) × (p.client.demand ≡ None)
finished None v p order done some all works = absurd (true≢false (sym some))
finished (Some redirect) v p order done some all works =
    let request = request_of redirect in
    let behind : end_of_read request ≤ request.first + done =
    omega (arith, count_of_order order request done works.0 all) in (
      none_behind p request (request.first + done) p.held behind works.1.held,
      none_wanted p request (request.first + done) p.client.demand behind works.1.asked,
    )

-- the hand is empty once a read has ended all of whose sectors moved
pub finished_empty : (phase : Phase) (v : View) (p : Parts) → FitsPlan plan.End phase p → HasInHand phase v p
    → IsEmptyHanded (record p { hand = no_hand })
finished_empty Reset v p fits has = absurd fits
finished_empty Idle v p fits has = absurd fits
finished_empty (Busy (Bad reason) done) v p fits has = absurd fits
finished_empty (Busy (Good order) done) v p fits has =
    let none = finished p.hand.redirect v p order done fits.2 fits.1 has in
    record { redirect = refl; failed = refl; held = none.0; asked = none.1 }
finished_empty (Ready order done left) v p fits has = absurd fits

unasked_failed : (p : Parts) (request : Request) (sector : ℕ) (asked : Option Fetching) → p.hand.failed ≡ true
    → IfSome asked (IsWanted p request sector) → asked ≡ None
unasked_failed p request sector None failed wanted = refl
unasked_failed p request sector (Some fetching) failed wanted =
    absurd (true≢false (sym failed ∙ wanted.unfailed))

failed : (redirect : Option Redirect) (v : View) (p : Parts) (order : Taken) (done : ℕ) → p.hand.failed ≡ true
    → WorksOn redirect v p order done → (p.held ≡ None) × (p.client.demand ≡ None)
failed None v p order done is works = absurd (true≢false (sym is ∙ works.0.failed))
failed (Some redirect) v p order done is works =
    let request = request_of redirect in (
      (works.1.failed is).1,
      unasked_failed p request (request.first + done) p.client.demand is works.1.asked,
    )

-- and once the monitor's work for it failed
pub failed_empty : (phase : Phase) (v : View) (p : Parts) → FitsPlan plan.Fail phase p → HasInHand phase v p
    → IsEmptyHanded (record p { hand = no_hand })
failed_empty Reset v p fits has = absurd fits
failed_empty Idle v p fits has = absurd fits
failed_empty (Busy (Bad reason) done) v p fits has = absurd fits
failed_empty (Busy (Good order) done) v p fits has =
    let none = failed p.hand.redirect v p (Good order) done fits has in
    record { redirect = refl; failed = refl; held = none.0; asked = none.1 }
failed_empty (Ready order done left) v p fits has = absurd fits

-- it is empty while a command is refused, of which nothing is done
pub refused_empty : (phase : Phase) (v : View) (p : Parts) → FitsPlan plan.Reserved phase p → HasInHand phase v p
    → IsEmptyHanded p × (is_just_taken phase ≡ true)
refused_empty Reset v p fits has = absurd fits
refused_empty Idle v p fits has = absurd fits
refused_empty (Busy order done) v p fits has =
    let works : WorksOn None v p order done = subst (λ redirect. WorksOn redirect v p order done) fits.0 has in
    (works.0, ap (λ done. done == 0) works.1)
refused_empty (Ready order done left) v p fits has = absurd fits

position_of_piece : (p : Parts) (request : Request) (from to : ℕ) (piece : Option HeldPiece)
    → IfSome piece (HoldsSector p request (request.first + from))
    → IsSomeAnd piece (λ held. request.first + to ≤ end_of_piece held) → to ≤ request.count
position_of_piece p request from to None holds ends = absurd ends
position_of_piece p request from to (Some held) holds ends = omega (arith, holds.within, ends)

is_held : (P : HeldPiece → Type 0) (piece : Option HeldPiece) → IsSomeAnd piece P → is_some piece ≡ true
is_held P None holds = absurd holds
is_held P (Some held) holds = refl

stands_at : (v w : View) (p : Parts) (request : Request) (from to : ℕ) → request.form ≡ DmaIn
    → w.file.pending ≡ v.file.pending → IsSomeAnd p.held (λ held. request.first + to ≤ end_of_piece held)
    → IsRedirected v p request from → StandsAt w p request to
stands_at v w p request from to form same ends at =
    let held = is_held (λ held. request.first + to ≤ end_of_piece held) p.held ends in record {
      read = at.read;
      unreserved = at.unreserved;
      position = position_of_piece p request from to p.held at.held ends;
      last = λ _. form;
      calm = λ _. same ∙ at.calm form;
      unfailed = unfailed_of p.hand.failed v p request from refl held at;
      unasked = unasked_of p request (request.first + from) p.client.demand held at.asked;
    }

moves_of : (redirect : Option Redirect) (v w : View) (p : Parts) (order : Request) (from to : ℕ)
    → p.hand.redirect ≡ redirect → from ≤ to → order.form ≡ DmaIn → w.file.pending ≡ v.file.pending
    → IsSomeAnd p.held (λ held. order.first + to ≤ end_of_piece held)
    → WorksOn redirect v p (Good order) from
    → HasInHand (Busy (Good order) to) w (tidied (Busy (Good order) to) p)
moves_of None v w p order from to is further form same ends works =
    absurd (some_not_none p.held (is_held (λ held. order.first + to ≤ end_of_piece held) p.held ends) works.0.held)
moves_of (Some redirect) v w p order from to is further form same ends works =
    let request = request_of redirect in
    let first : order.first ≡ request.first = ap first_in works.0 in
    let ends_there : IsSomeAnd p.held (λ held. request.first + to ≤ end_of_piece held) =
    subst (λ first. IsSomeAnd p.held (λ held. first + to ≤ end_of_piece held)) first ends in
    let stands = stands_at v w p request from to (same_form order request DmaIn works.0 form) same ends_there works.1 in
    subst (λ taken. HasInHand (Busy taken to) w (tidied (Busy taken to) p)) (sym works.0)
    (moved_on w p redirect from to is stands further works.1.held)

-- sectors of the held piece moved to memory
pub moved_in_hand : (v w : View) (p : Parts) (order : Request) (from to : ℕ) → from ≤ to → order.form ≡ DmaIn
    → w.file.pending ≡ v.file.pending → IsSomeAnd p.held (λ held. order.first + to ≤ end_of_piece held)
    → HasInHand (Busy (Good order) from) v p
    → HasInHand (Busy (Good order) to) w (tidied (Busy (Good order) to) p)
moved_in_hand v w p order from to further form same ends has =
    moves_of p.hand.redirect v w p order from to refl further form same ends has
