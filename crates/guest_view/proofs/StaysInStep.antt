-- An access leaves the lines of view and drive the same, and their interrupts in step.
use Rattle.std.proofs.Common.{◌≡◌, ℕ, Bool, true, false, not, ◌&&◌, ◌||◌, if◌then◌else◌, bit_and, refl, sym, ap, ◌∙◌, subst}
use Rattle.std.proofs.Math.Bool.{and-false, and-true}
use Rattle.ata_taskfile.specs.declared.Reg.{Reg}
use Rattle.ata_taskfile.specs.declared.Reg.TheVariants as reg
use Rattle.ata_taskfile.specs.declared.Access.{Access}
use Rattle.ata_taskfile.specs.declared.Access.TheVariants as access
use Rattle.ata_taskfile.specs.declared.Wrote.TheVariants.{Stored, Ignored, Command}
use Rattle.ata_taskfile.specs.declared.task_file.TaskFile.{TaskFile}
use Rattle.ata_taskfile.specs.declared.bus_master.Bus.{Bus}
use Rattle.ata_taskfile.specs.declared.registers.TheConstants.{SRST, NIEN}
use Rattle.ata_taskfile.specs.TaskFile.{has_bit, is_ignored, line, stored, control_wrote, in_reset}
use Rattle.ata_taskfile.specs.Device.{Device, with_file, in_hand}
use Rattle.own_pio.specs.Named.{nien_of}
use Rattle.port_lease.specs.declared.view.View.{View}
use Rattle.guest_view.specs.Seen.{IsInStep}
use Rattle.guest_view.specs.View.{view_wrote, view_after, is_reset}
use Rattle.guest_view.specs.Drive.{acknowledged, nien_written, drive_after, drive_after_read, drive_after_write}
use Rattle.guest_view.proofs.OneDevice.{or_false, none_high, same_line, same_nien, nien_reached}

module _ (waits : Bool) (v : View) (d : Device) (n : ℕ) (step : IsInStep waits v d) where
  -- the interrupt is acknowledged in the view, and in the drive where one pends for the guest
  step-ended : (f : TaskFile) (b : Bus) (p : Bool) → v.file.pending ≡ p → f.pending ≡ false
      → IsInStep waits (record { file = f; bus = b }) (acknowledged p d)
  step-ended f b true e low = record { line_same = sym (none_high f low); pending = λ w. sym low }
  step-ended f b false e low = record {
    line_same = step.line_same ∙ none_high v.file e ∙ sym (none_high f low);
    pending = λ w. step.pending (ap (λ p. p || waits) e ∙ ap (λ p. p || waits) (sym low) ∙ w) ∙ e ∙ sym low;
  }

  -- registers of the view in which neither line nor interrupt has changed
  step-same : (f : TaskFile) (b : Bus) → line f ≡ line v.file → f.pending ≡ v.file.pending
      → IsInStep waits (record { file = f; bus = b }) d
  step-same f b l p = record {
    line_same = step.line_same ∙ sym l;
    pending = λ w. step.pending (ap (λ q. q || waits) (sym p) ∙ w) ∙ sym p;
  }

  step-read : (r : Reg) → IsInStep waits (view_after (access.Read8 r) n v) (drive_after_read r v d)
  step-read reg.Status = step-ended (record v.file { pending = false }) v.bus v.file.pending refl refl
  step-read reg.Error = step
  step-read reg.Count = step
  step-read reg.Low = step
  step-read reg.Mid = step
  step-read reg.High = step
  step-read reg.Device = step
  step-read reg.Alternate = step
  step-read reg.BusCommand = step
  step-read reg.BusStatus = step

  step-plain : (ignored : Bool) (f : TaskFile) → line f ≡ line v.file → f.pending ≡ v.file.pending
      → IsInStep waits (view_wrote (if ignored then Ignored else Stored) (if ignored then v.file else f) n v) d
  step-plain true f l p = step
  step-plain false f l p = step-same f v.bus l p

  step-command : (x : ℕ) (ignored : Bool)
      → IsInStep waits (view_wrote (if ignored then Ignored else Command x)
      (if ignored then v.file else stored reg.Status x v.file) n v) (acknowledged (v.file.pending && not ignored) d)
  step-command x true = subst (λ b. IsInStep waits v (acknowledged b d)) (sym (and-false v.file.pending)) step
  step-command x false =
      let f = in_hand x n (stored reg.Status x v.file) in
      subst (λ b. IsInStep waits (record { file = f; bus = v.bus }) (acknowledged b d))
      (sym (and-true v.file.pending)) (step-ended f v.bus v.file.pending refl refl)

  step-control : (x : ℕ) (needed : Bool) → (v.file.pending || waits) ≡ needed
      → IsInStep waits (record { file = record v.file { control = bit_and x 134 }; bus = v.bus })
      (nien_written needed x d)
  step-control x true is =
      let f = record v.file { control = bit_and x 134 } in
      let h = record d.file { control = bit_and (nien_of (has_bit NIEN x)) 134 } in
      let to : IsInStep waits (record { file = f; bus = v.bus }) (with_file h d)
      = record { line_same = same_nien v d x (step.pending is); pending = λ w. step.pending is } in
      subst (IsInStep waits (record { file = f; bus = v.bus })) (sym (nien_reached (has_bit NIEN x) d)) to
  step-control x false is =
      let f = record v.file { control = bit_and x 134 } in
      let none = or_false v.file.pending waits is in
      step-same f v.bus (none_high f none ∙ sym (none_high v.file none)) refl

  step-alternate : (x : ℕ) (held : Bool) → held ≡ false
      → IsInStep waits (view_wrote (if held then control_wrote v.file.phase else Stored)
      (if held then in_reset v.file.phase (record v.file { control = bit_and x 134 })
      else record v.file { control = bit_and x 134 }) n v) (nien_written (v.file.pending || waits) x d)
  step-alternate x true is = absurd cc
  step-alternate x false is = step-control x (v.file.pending || waits) refl

  step-stored : (r : Reg) (x : ℕ) → (stored r x v.file).pending ≡ v.file.pending
      → (stored r x v.file).control ≡ bit_and v.file.control 127
      → IsInStep waits (view_wrote (if is_ignored r v.file then Ignored else Stored)
      (if is_ignored r v.file then v.file else stored r x v.file) n v) d
  step-stored r x p c =
      step-plain (is_ignored r v.file) (stored r x v.file) (same_line (stored r x v.file) v.file p c) p

  step-write : (r : Reg) (x : ℕ) → is_reset (access.Write8 r x) ≡ false
      → IsInStep waits (view_after (access.Write8 r x) n v) (drive_after_write waits r x v d)
  step-write reg.Error x is = step-stored reg.Error x refl refl
  step-write reg.Count x is = step-stored reg.Count x refl refl
  step-write reg.Low x is = step-stored reg.Low x refl refl
  step-write reg.Mid x is = step-stored reg.Mid x refl refl
  step-write reg.High x is = step-stored reg.High x refl refl
  step-write reg.Device x is = step-stored reg.Device x refl refl
  step-write reg.Status x is = step-command x (is_ignored reg.Status v.file)
  step-write reg.Alternate x is = step-alternate x (has_bit SRST x) is
  step-write reg.BusCommand x is = record { line_same = step.line_same; pending = step.pending }
  step-write reg.BusStatus x is = record { line_same = step.line_same; pending = step.pending }

pub in_step : (waits : Bool) (v : View) (d : Device) (n : ℕ) (a : Access) → IsInStep waits v d → is_reset a ≡ false
    → IsInStep waits (view_after a n v) (drive_after waits v a d)
in_step waits v d n (access.Read8 r) step is = step-read waits v d n step r
in_step waits v d n (access.Write8 r x) step is = step-write waits v d n step r x is
in_step waits v d n access.ReadWord step is = record { line_same = step.line_same; pending = step.pending }
in_step waits v d n (access.WriteWord w) step is = record { line_same = step.line_same; pending = step.pending }
in_step waits v d n access.ReadPointer step is = step
in_step waits v d n (access.WritePointer x) step is = record { line_same = step.line_same; pending = step.pending }
in_step waits v d n access.Line step is = step
