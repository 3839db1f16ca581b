-- What is in hand stays what the view's phase asks for.
use Rattle.std.proofs.Common.{◌≡◌, ℕ, false, Option, Some, None, refl, sym, subst}
use Rattle.ata_taskfile.specs.declared.Request.{Request}
use Rattle.ata_taskfile.specs.declared.Taken.{Taken}
use Rattle.ata_taskfile.specs.declared.Phase.{Phase}
use Rattle.ata_taskfile.specs.declared.Phase.TheVariants.{Reset, Idle, Busy, Ready}
use Rattle.port_lease.specs.declared.view.View.{View}
use Rattle.redirect.specs.declared.redirect.Redirect.{Redirect}
use Rattle.redirect.specs.Next.{request_of}
use Rattle.monitor_state.specs.declared.parts.Parts.{Parts}
use Rattle.monitor_state.specs.Pieces.{tidied}
use Rattle.monitor_state.specs.Hand.{HasInHand, IsEmptyHanded, IsRedirected, WorksOn}
use Rattle.monitor_state.proofs.Tidied.{works_untidied}

-- nothing pends in one view where nothing does in another
abbrev pub Calms : View → View → Type 0
Calms v w = v.file.pending ≡ false → w.file.pending ≡ false

-- an empty hand stays empty when all is let go
pub empty_tidied : (p : Parts) → IsEmptyHanded p → IsEmptyHanded (tidied Idle p)
empty_tidied p empty = record { redirect = refl; failed = refl; held = refl; asked = empty.asked }

redirected_calmer : (v w : View) (p : Parts) (request : Request) (done : ℕ) → Calms v w
    → IsRedirected v p request done → IsRedirected w p request done
redirected_calmer v w p request done calms at = record {
  read = at.read;
  unreserved = at.unreserved;
  position = at.position;
  last = at.last;
  calm = λ form. calms (at.calm form);
  held = at.held;
  asked = at.asked;
  failed = λ failed. let both = at.failed failed in (calms both.0, both.1);
}

works_calmer : (redirect : Option Redirect) (v w : View) (p : Parts) (order : Taken) (done : ℕ) → Calms v w
    → WorksOn redirect v p order done → WorksOn redirect w p order done
works_calmer None v w p order done calms works = works
works_calmer (Some redirect) v w p order done calms works =
    (works.0, redirected_calmer v w p (request_of redirect) done calms works.1)

-- an order that is in hand is so once the parts are tidied
pub works_tidied : (v : View) (p : Parts) (order : Taken) (done : ℕ) → WorksOn p.hand.redirect v p order done
    → HasInHand (Busy order done) v (tidied (Busy order done) p)
works_tidied v p order done works =
    subst (HasInHand (Busy order done) v) (sym (works_untidied v p order done works)) works

-- in the same phase, where no interrupt has come
pub same_phase : (phase : Phase) (v w : View) (p : Parts) → Calms v w → HasInHand phase v p
    → HasInHand phase w (tidied phase p)
same_phase Reset v w p calms has = (has.0, calms has.1)
same_phase Idle v w p calms has = empty_tidied p has
same_phase (Busy order done) v w p calms has =
    works_tidied w p order done (works_calmer p.hand.redirect v w p order done calms has)
same_phase (Ready order done left) v w p calms has = has

-- a command that was just taken is in hand with an empty hand
pub taken_in_hand : (w : View) (p : Parts) (order : Taken) → IsEmptyHanded p
    → HasInHand (Busy order 0) w (tidied (Busy order 0) p)
taken_in_hand w p order empty =
    works_tidied w p order 0 (subst (λ redirect. WorksOn redirect w p order 0) (sym empty.redirect) (empty, refl))
