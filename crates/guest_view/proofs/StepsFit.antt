-- A step of the view's own leaves a view that fits its drive one that does.
use Rattle.std.proofs.Common.{◌≡◌, ℕ, true, false, ◌<◌, if◌then◌else◌, refl, sym, ap, subst, arith}
use Rattle.ata_taskfile.specs.declared.Refused.{Refused}
use Rattle.ata_taskfile.specs.declared.Request.{Request}
use Rattle.ata_taskfile.specs.declared.Taken.TheVariants.{Good}
use Rattle.ata_taskfile.specs.declared.Phase.TheVariants.{Busy}
use Rattle.ata_taskfile.specs.TaskFile.{holds_reset, ended_failed}
use Rattle.ata_taskfile.specs.Bus.{walk_ended}
use Rattle.ata_taskfile.specs.Device.{is_moving}
use Rattle.ata_taskfile.specs.Data.{gives_words}
use Rattle.ata_taskfile.specs.Lawful.{IsLawfulState, is_in_reset, is_just_taken, has_order}
use Rattle.plain_drive.specs.Step.{failure_bit, failure_shown}
use Rattle.plain_drive.proofs.Ends.{given_up_lawful}
use Rattle.port_lease.specs.declared.view.View.{View}
use Rattle.guest_view.specs.Steps.{after_reset, after_offer, after_refusal, after_finish, after_failure}
use Rattle.guest_view.specs.Fits.{FitsView}
use Rattle.guest_view.proofs.StaysFit.{state_of, fits_of}

pub reset_fits : (v : View) (n : ℕ) → FitsView v n → is_in_reset v.file.phase ≡ true → holds_reset v.file ≡ false
    → FitsView (after_reset v) n
reset_fits v n fits resets free = grind arith

pub offer_fits : (order : Request) (done : ℕ) (v : View) (n : ℕ) → FitsView v n → v.file.phase ≡ Busy (Good order) done
    → gives_words order.form ≡ true → done < order.count → FitsView (after_offer order done v) n
offer_fits order done v n fits at gives more = grind arith

pub refusal_fits : (reason : Refused) (v : View) (n : ℕ) → FitsView v n → is_just_taken v.file.phase ≡ true
    → FitsView (after_refusal reason v) n
refusal_fits reason v n fits fresh = grind arith

pub finish_fits : (v : View) (n : ℕ) → FitsView v n → has_order v.file.phase ≡ true → FitsView (after_finish v) n
finish_fits v n fits stands = grind arith

pub failure_fits : (order : Request) (done : ℕ) (v : View) (n : ℕ) → FitsView v n
    → v.file.phase ≡ Busy (Good order) done → FitsView (after_failure order done v) n
failure_fits order done v n fits at =
    let state = given_up_lawful (failure_bit order.kind) v.file v.bus 256 n order done at (state_of v n fits) in
    fits_of (after_failure order done v) n
    (subst (λ m. IsLawfulState (ended_failed (failure_bit order.kind) (failure_shown order done v.file))
    (if m then walk_ended v.bus else v.bus) 256 n) (sym (ap is_moving at)) state) (λ fresh. absurd cc) refl
