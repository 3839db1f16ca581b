-- An access leaves nIEN and the interrupt of view and drive alike, where they were.
use Rattle.std.proofs.Common.{◌≡◌, ℕ, Bool, true, false, not, ◌&&◌, ◌||◌, if◌then◌else◌, bit_and, refl, sym, ap, ◌∙◌}
use Rattle.std.proofs.Math.Bool.{and-false, and-true}
use Rattle.ata_taskfile.specs.declared.Reg.{Reg}
use Rattle.ata_taskfile.specs.declared.Reg.TheVariants as reg
use Rattle.ata_taskfile.specs.declared.Access.{Access}
use Rattle.ata_taskfile.specs.declared.Access.TheVariants as access
use Rattle.ata_taskfile.specs.declared.Wrote.TheVariants.{Stored, Ignored, Command}
use Rattle.ata_taskfile.specs.declared.task_file.TaskFile.{TaskFile}
use Rattle.ata_taskfile.specs.declared.registers.TheConstants.{SRST, NIEN}
use Rattle.ata_taskfile.specs.TaskFile.{has_bit, is_ignored, masks_line, stored, control_wrote, in_reset}
use Rattle.ata_taskfile.specs.Device.{Device}
use Rattle.port_lease.specs.declared.view.View.{View}
use Rattle.guest_view.specs.View.{view_wrote, view_after, is_reset}
use Rattle.guest_view.specs.Drive.{acknowledged, nien_written, drive_after, drive_after_read, drive_after_write}
use Rattle.guest_view.proofs.OneDevice.{masks, nien_kept, nien_alone, nien_reached}

module _ (waits : Bool) (v : View) (d : Device) (n : ℕ) (same : masks_line d.file ≡ masks_line v.file) where
  acknowledged-masks : (needed : Bool) → masks_line (acknowledged needed d).file ≡ masks_line d.file
  acknowledged-masks true = refl
  acknowledged-masks false = refl

  masks-read : (r : Reg) → masks_line (drive_after_read r v d).file ≡ masks_line (view_after (access.Read8 r) n v).file
  masks-read reg.Status = acknowledged-masks v.file.pending ∙ same
  masks-read reg.Error = same
  masks-read reg.Count = same
  masks-read reg.Low = same
  masks-read reg.Mid = same
  masks-read reg.High = same
  masks-read reg.Device = same
  masks-read reg.Alternate = same
  masks-read reg.BusCommand = same
  masks-read reg.BusStatus = same

  -- a write to the command block leaves nIEN
  masks-block : (ignored : Bool) (f : TaskFile) → f.control ≡ bit_and v.file.control 127
      → masks_line d.file
      ≡ masks_line (view_wrote (if ignored then Ignored else Stored) (if ignored then v.file else f) n v).file
  masks-block true f c = same
  masks-block false f c = same ∙ sym (masks v.file.control) ∙ ap (has_bit NIEN) (sym c)

  masks-command : (x : ℕ) (ignored : Bool) → masks_line (acknowledged (v.file.pending && not ignored) d).file
      ≡ masks_line (view_wrote (if ignored then Ignored else Command x)
      (if ignored then v.file else stored reg.Status x v.file) n v).file
  masks-command x true = acknowledged-masks (v.file.pending && false) ∙ same
  masks-command x false =
      acknowledged-masks (v.file.pending && true) ∙ same ∙ sym (masks v.file.control)

  masks-control : (x : ℕ) (held needed : Bool) → held ≡ false → needed ≡ true
      → masks_line (nien_written needed x d).file
      ≡ masks_line (view_wrote (if held then control_wrote v.file.phase else Stored)
      (if held then in_reset v.file.phase (record v.file { control = bit_and x 134 })
      else record v.file { control = bit_and x 134 }) n v).file
  masks-control x true needed free is = absurd cc
  masks-control x false true free is =
      ap (λ (e : Device). masks_line e.file) (nien_reached (has_bit NIEN x) d)
      ∙ nien_alone (has_bit NIEN x) ∙ sym (nien_kept x)
  masks-control x false false free is = absurd cc

  masks-write : (r : Reg) (x : ℕ) → (v.file.pending || waits) ≡ true → is_reset (access.Write8 r x) ≡ false
      → masks_line (drive_after_write waits r x v d).file ≡ masks_line (view_after (access.Write8 r x) n v).file
  masks-write reg.Error x needed is = masks-block (is_ignored reg.Error v.file) (stored reg.Error x v.file) refl
  masks-write reg.Count x needed is = masks-block (is_ignored reg.Count v.file) (stored reg.Count x v.file) refl
  masks-write reg.Low x needed is = masks-block (is_ignored reg.Low v.file) (stored reg.Low x v.file) refl
  masks-write reg.Mid x needed is = masks-block (is_ignored reg.Mid v.file) (stored reg.Mid x v.file) refl
  masks-write reg.High x needed is = masks-block (is_ignored reg.High v.file) (stored reg.High x v.file) refl
  masks-write reg.Device x needed is = masks-block (is_ignored reg.Device v.file) (stored reg.Device x v.file) refl
  masks-write reg.Status x needed is = masks-command x (is_ignored reg.Status v.file)
  masks-write reg.Alternate x needed is = masks-control x (has_bit SRST x) (v.file.pending || waits) is needed
  masks-write reg.BusCommand x needed is = same
  masks-write reg.BusStatus x needed is = same

-- where the guest's nIEN reaches the drive, it is the drive's
pub same_masks : (waits : Bool) (v : View) (a : Access) (d : Device) (n : ℕ) → (v.file.pending || waits) ≡ true
    → is_reset a ≡ false → masks_line d.file ≡ masks_line v.file
    → masks_line (drive_after waits v a d).file ≡ masks_line (view_after a n v).file
same_masks waits v (access.Read8 r) d n needed is same = masks-read waits v d n same r
same_masks waits v (access.Write8 r x) d n needed is same = masks-write waits v d n same r x needed is
same_masks waits v access.ReadWord d n needed is same = same
same_masks waits v (access.WriteWord w) d n needed is same = same
same_masks waits v access.ReadPointer d n needed is same = same
same_masks waits v (access.WritePointer x) d n needed is same = same
same_masks waits v access.Line d n needed is same = same

module _ (waits : Bool) (v : View) (d : Device) (n : ℕ) (same : d.file.pending ≡ v.file.pending) where
  -- both interrupts end
  pends-ended : (p : Bool) → v.file.pending ≡ p → (acknowledged p d).file.pending ≡ false
  pends-ended true e = refl
  pends-ended false e = same ∙ e

  pends-read : (r : Reg) → (drive_after_read r v d).file.pending ≡ (view_after (access.Read8 r) n v).file.pending
  pends-read reg.Status = pends-ended v.file.pending refl
  pends-read reg.Error = same
  pends-read reg.Count = same
  pends-read reg.Low = same
  pends-read reg.Mid = same
  pends-read reg.High = same
  pends-read reg.Device = same
  pends-read reg.Alternate = same
  pends-read reg.BusCommand = same
  pends-read reg.BusStatus = same

  pends-block : (ignored : Bool) (f : TaskFile) → f.pending ≡ v.file.pending
      → d.file.pending
      ≡ (view_wrote (if ignored then Ignored else Stored) (if ignored then v.file else f) n v).file.pending
  pends-block true f p = same
  pends-block false f p = same ∙ sym p

  pends-command : (x : ℕ) (ignored : Bool) → (acknowledged (v.file.pending && not ignored) d).file.pending
      ≡ (view_wrote (if ignored then Ignored else Command x)
      (if ignored then v.file else stored reg.Status x v.file) n v).file.pending
  pends-command x true = ap (λ p. (acknowledged p d).file.pending) (and-false v.file.pending) ∙ same
  pends-command x false =
      ap (λ p. (acknowledged p d).file.pending) (and-true v.file.pending) ∙ pends-ended v.file.pending refl

  pends-nien : (needed : Bool) (x : ℕ) → (nien_written needed x d).file.pending ≡ d.file.pending
  pends-nien true x = ap (λ (e : Device). e.file.pending) (nien_reached (has_bit NIEN x) d)
  pends-nien false x = refl

  pends-control : (x : ℕ) (held : Bool) → held ≡ false → (nien_written (v.file.pending || waits) x d).file.pending
      ≡ (view_wrote (if held then control_wrote v.file.phase else Stored)
      (if held then in_reset v.file.phase (record v.file { control = bit_and x 134 })
      else record v.file { control = bit_and x 134 }) n v).file.pending
  pends-control x true free = absurd cc
  pends-control x false free = pends-nien (v.file.pending || waits) x ∙ same

  pends-write : (r : Reg) (x : ℕ) → is_reset (access.Write8 r x) ≡ false
      → (drive_after_write waits r x v d).file.pending ≡ (view_after (access.Write8 r x) n v).file.pending
  pends-write reg.Error x is = pends-block (is_ignored reg.Error v.file) (stored reg.Error x v.file) refl
  pends-write reg.Count x is = pends-block (is_ignored reg.Count v.file) (stored reg.Count x v.file) refl
  pends-write reg.Low x is = pends-block (is_ignored reg.Low v.file) (stored reg.Low x v.file) refl
  pends-write reg.Mid x is = pends-block (is_ignored reg.Mid v.file) (stored reg.Mid x v.file) refl
  pends-write reg.High x is = pends-block (is_ignored reg.High v.file) (stored reg.High x v.file) refl
  pends-write reg.Device x is = pends-block (is_ignored reg.Device v.file) (stored reg.Device x v.file) refl
  pends-write reg.Status x is = pends-command x (is_ignored reg.Status v.file)
  pends-write reg.Alternate x is = pends-control x (has_bit SRST x) is
  pends-write reg.BusCommand x is = same
  pends-write reg.BusStatus x is = same

-- where an interrupt pends in both or in none, it still does
pub same_pending : (waits : Bool) (v : View) (a : Access) (d : Device) (n : ℕ) → is_reset a ≡ false
    → d.file.pending ≡ v.file.pending
    → (drive_after waits v a d).file.pending ≡ (view_after a n v).file.pending
same_pending waits v (access.Read8 r) d n is same = pends-read waits v d n same r
same_pending waits v (access.Write8 r x) d n is same = pends-write waits v d n same r x is
same_pending waits v access.ReadWord d n is same = same
same_pending waits v (access.WriteWord w) d n is same = same
same_pending waits v access.ReadPointer d n is same = same
same_pending waits v (access.WritePointer x) d n is same = same
same_pending waits v access.Line d n is same = same
