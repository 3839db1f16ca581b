-- A guest's access on the monitor's side leaves in hand what the view's phase asks for.
use Rattle.std.proofs.Common.{◌≡◌, ℕ, Bool, true, false, refl, sym, subst, arith}
use Rattle.ata_taskfile.specs.declared.Reg.{Reg}
use Rattle.ata_taskfile.specs.declared.Access.{Access}
use Rattle.ata_taskfile.specs.declared.Access.TheVariants as access
use Rattle.ata_taskfile.specs.declared.Phase.{Phase}
use Rattle.ata_taskfile.specs.declared.Phase.TheVariants.{Reset, Idle, Busy, Ready}
use Rattle.ata_taskfile.specs.TaskFile.{is_at_work}
use Rattle.ata_taskfile.specs.Data.{phase_after_read}
use Rattle.ata_taskfile.specs.Order.{inputs, order_of, taken}
use Rattle.port_lease.specs.declared.view.View.{View}
use Rattle.guest_view.specs.View.{is_reset, takes_command, view_after}
use Rattle.guest_view.specs.Fits.{FitsView}
use Rattle.guest_view.proofs.Commands.{taken_phase}
use Rattle.guest_view.proofs.DrivesWork.{stays_calm}
use Rattle.monitor_state.specs.declared.parts.Parts.{Parts}
use Rattle.monitor_state.specs.Pieces.{tidied}
use Rattle.monitor_state.specs.Hand.{HasInHand}
use Rattle.monitor_state.proofs.Phases.{read_stays, taken_in_idle, unwanted_stays, write_stays}
use Rattle.monitor_state.proofs.Tidied.{works_untidied}
use Rattle.monitor_state.proofs.InHand.{same_phase, taken_in_hand}
use Rattle.monitor_state.proofs.Served.{after_word}

-- what is in hand in a phase is so in the view's, which is that phase
at_phase : (phase : Phase) (w : View) (p : Parts) → w.file.phase ≡ phase → HasInHand phase w (tidied phase p)
    → HasInHand w.file.phase w (tidied w.file.phase p)
at_phase phase w p is = subst (λ phase. HasInHand phase w (tidied phase p)) (sym is)

stays_in_hand : (a : Access) (n : ℕ) (v : View) (p : Parts) → (view_after a n v).file.phase ≡ v.file.phase
    → HasInHand v.file.phase v p
    → let w = view_after a n v in HasInHand w.file.phase w (tidied w.file.phase p)
stays_in_hand a n v p is has =
    at_phase v.file.phase (view_after a n v) p is
    (same_phase v.file.phase v (view_after a n v) p (stays_calm a n v) has)

written_in_hand : (takes : Bool) (r : Reg) (x n : ℕ) (v : View) (p : Parts) → is_reset (access.Write8 r x) ≡ false
    → takes_command (access.Write8 r x) v.file ≡ takes → HasInHand v.file.phase v p
    → let w = view_after (access.Write8 r x) n v in HasInHand w.file.phase w (tidied w.file.phase p)
written_in_hand true r x n v p runs takes has =
    let a = access.Write8 r x in
    at_phase (Busy (taken (order_of x (inputs v.file) n)) 0) (view_after a n v) p (taken_phase a n v takes) (
    taken_in_hand (view_after a n v) p (taken (order_of x (inputs v.file) n))
    (subst (λ phase. HasInHand phase v p) (taken_in_idle r x v.file takes) has)
    )
written_in_hand false r x n v p runs takes has =
    stays_in_hand (access.Write8 r x) n v p (write_stays r x n v runs takes) has

-- after each access that begins no reset
pub accessed_in_hand : (a : Access) (n : ℕ) (v : View) (p : Parts) → FitsView v n → is_reset a ≡ false
    → HasInHand v.file.phase v p
    → let w = view_after a n v in HasInHand w.file.phase w (tidied w.file.phase p)
accessed_in_hand (access.Read8 r) n v p fits runs has = stays_in_hand (access.Read8 r) n v p (read_stays r v.file) has
accessed_in_hand (access.Write8 r x) n v p fits runs has =
    written_in_hand (takes_command (access.Write8 r x) v.file) r x n v p runs refl has
accessed_in_hand access.ReadWord n v p fits runs has =
    after_word v.file.phase v (view_after access.ReadWord n v) p (λ calm. calm) has
accessed_in_hand (access.WriteWord x) n v p fits runs has =
    stays_in_hand (access.WriteWord x) n v p (unwanted_stays v.file.phase fits.served) has
accessed_in_hand access.ReadPointer n v p fits runs has = stays_in_hand access.ReadPointer n v p refl has
accessed_in_hand (access.WritePointer x) n v p fits runs has = stays_in_hand (access.WritePointer x) n v p refl has
accessed_in_hand access.Line n v p fits runs has = stays_in_hand access.Line n v p refl has

read_at_work : (phase : Phase) → is_at_work phase ≡ true → phase_after_read phase ≡ phase
read_at_work phase at_work = grind arith

write_at_work : (r : Reg) (x n : ℕ) (v : View) → is_reset (access.Write8 r x) ≡ false
    → is_at_work v.file.phase ≡ true → (view_after (access.Write8 r x) n v).file.phase ≡ v.file.phase
write_at_work r x n v runs at_work = grind arith

-- no access changes the phase of a view that is at work, unless it begins a reset
pub at_work_stays : (a : Access) (n : ℕ) (v : View) → FitsView v n → is_reset a ≡ false
    → is_at_work v.file.phase ≡ true → (view_after a n v).file.phase ≡ v.file.phase
at_work_stays (access.Read8 r) n v fits runs at_work = read_stays r v.file
at_work_stays (access.Write8 r x) n v fits runs at_work = write_at_work r x n v runs at_work
at_work_stays access.ReadWord n v fits runs at_work = read_at_work v.file.phase at_work
at_work_stays (access.WriteWord x) n v fits runs at_work = unwanted_stays v.file.phase fits.served
at_work_stays access.ReadPointer n v fits runs at_work = refl
at_work_stays (access.WritePointer x) n v fits runs at_work = refl
at_work_stays access.Line n v fits runs at_work = refl

-- nothing is let go of what is in hand of a view that is at work
pub at_work_untidied : (phase : Phase) (v : View) (p : Parts) → HasInHand phase v p → is_at_work phase ≡ true
    → tidied phase p ≡ p
at_work_untidied Reset v p has at_work = refl
at_work_untidied Idle v p has at_work = cc
at_work_untidied (Busy order done) v p has at_work = works_untidied v p order done has
at_work_untidied (Ready order done left) v p has at_work = refl
