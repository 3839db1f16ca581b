-- An access leaves a view that fits its drive one that does.
use Rattle.std.proofs.Common.{◌≡◌, ℕ, Bool, true, false, if◌then◌else◌, bit_and, refl, sym, ap, subst, arith, [], replicate}
use Rattle.std.proofs.lemmas.List.{length-replicate}
use Rattle.ata_taskfile.specs.declared.Reg.{Reg}
use Rattle.ata_taskfile.specs.declared.Reg.TheVariants as reg
use Rattle.ata_taskfile.specs.declared.Access.{Access}
use Rattle.ata_taskfile.specs.declared.Access.TheVariants as access
use Rattle.ata_taskfile.specs.declared.Phase.{Phase}
use Rattle.ata_taskfile.specs.declared.Wrote.{Wrote}
use Rattle.ata_taskfile.specs.declared.Wrote.TheVariants.{Stored, Ignored, Command, ResetBegun}
use Rattle.ata_taskfile.specs.declared.task_file.TaskFile.{TaskFile}
use Rattle.ata_taskfile.specs.declared.registers.TheConstants.{SRST}
use Rattle.ata_taskfile.specs.TaskFile.{has_bit, is_of_bus, is_at_work, after_read, after_write, wrote, stored, control_wrote, in_reset}
use Rattle.ata_taskfile.specs.Bus.{bus_written, pointer_written}
use Rattle.ata_taskfile.specs.Data.{is_wanted, phase_after_read, phase_after_write}
use Rattle.ata_taskfile.specs.Device.{Device}
use Rattle.ata_taskfile.specs.Lawful.{IsLawful, IsLawfulState, has_its_words, is_just_taken}
use Rattle.ata_taskfile.proofs.Lawfulness.{stored_lawful, command_lawful, reset_lawful, bus_written_lawful, accessed-lawful}
use Rattle.port_lease.specs.declared.view.View.{View}
use Rattle.port_lease.specs.Handover.{IsOrdered}
use Rattle.guest_view.specs.View.{view_with_file, view_with_phase, view_wrote, view_after}
use Rattle.guest_view.specs.Fits.{FitsView}
use Rattle.guest_view.proofs.Commands.{read_phase}

-- no command was just taken where the drive isn't at work
not-fresh : (phase : Phase) → is_at_work phase ≡ false → is_just_taken phase ≡ false
not-fresh phase at = grind arith

-- a write of Data goes nowhere where no block is wanted
unwanted : (phase : Phase) → is_wanted phase ≡ false → phase_after_write phase ≡ phase
unwanted phase served = grind arith

-- a read of Data wants no block
read-served : (phase : Phase) → is_wanted phase ≡ false → is_wanted (phase_after_read phase) ≡ false
read-served phase served = grind arith

-- a whole block is what a phase wants in which none is wanted
whole-block : (phase : Phase) → is_wanted phase ≡ false → has_its_words phase 256 ≡ true
whole-block phase served = grind arith

-- a view that fits is the state of a device with a whole block
pub state_of : (v : View) (n : ℕ) → FitsView v n → IsLawfulState v.file v.bus 256 n
state_of v n fits = record {
  registers = fits.lawful;
  within = fits.within;
  block = whole-block v.file.phase fits.served;
  pairs = fits.pairs;
}

-- and the state of one fits, where it is ordered and wants no block
pub fits_of : (v : View) (n : ℕ) → IsLawfulState v.file v.bus 256 n
    → (is_just_taken v.file.phase ≡ true → IsOrdered v v.file.command n) → is_wanted v.file.phase ≡ false
    → FitsView v n
fits_of v n state ordered served = record {
  lawful = state.registers;
  within = state.within;
  ordered = ordered;
  served = served;
  pairs = state.pairs;
}

module _ (v : View) (n : ℕ) (fits : FitsView v n) where
  -- a write to a register of the task file
  wrote-lawful : (w : Wrote) (r : Reg) (x : ℕ) → wrote r x v.file ≡ w
      → IsLawfulState (view_wrote w (after_write r x v.file) n v).file (view_wrote w (after_write r x v.file) n v).bus
      256 n
  wrote-lawful Stored r x is = stored_lawful r x v.file v.bus 256 n is (state_of v n fits)
  wrote-lawful Ignored r x is = state_of v n fits
  wrote-lawful (Command byte) r x is = command_lawful r x byte v.file v.bus 256 n is (state_of v n fits)
  wrote-lawful ResetBegun r x is = reset_lawful r x v.file v.bus 256 n is (state_of v n fits)

  wrote-served : (w : Wrote) (r : Reg) (x : ℕ) → wrote r x v.file ≡ w
      → is_wanted (view_wrote w (after_write r x v.file) n v).file.phase ≡ false
  wrote-served w r x is = let served = fits.served in grind arith

  -- a write to the command block that is no command is taken where no command was just taken
  plain-ordered : (work : Bool) (f : TaskFile) → is_at_work v.file.phase ≡ work → f.phase ≡ v.file.phase
      → (if work then Ignored else Stored) ≡ Stored → is_just_taken (if work then v.file else f).phase ≡ true
      → IsOrdered (view_with_file (if work then v.file else f) v) (if work then v.file else f).command n
  plain-ordered true f at is taken fresh = absurd cc
  plain-ordered false f at is taken fresh =
      absurd (let late = not-fresh v.file.phase at in let was = ap is_just_taken is in cc)

  control-ordered : (held : Bool) (x : ℕ) → (if held then control_wrote v.file.phase else Stored) ≡ Stored
      → (let f = if held then in_reset v.file.phase (record v.file { control = x })
      else record v.file { control = x } in
      is_just_taken f.phase ≡ true → IsOrdered (view_with_file f v) f.command n)
  control-ordered true x taken fresh = let ordered = fits.ordered in grind arith
  control-ordered false x taken fresh = fits.ordered fresh

  stored-ordered : (r : Reg) (x : ℕ) → wrote r x v.file ≡ Stored → is_just_taken (after_write r x v.file).phase ≡ true
      → IsOrdered (view_with_file (after_write r x v.file) v) (after_write r x v.file).command n
  stored-ordered reg.Error x is fresh =
      plain-ordered (is_at_work v.file.phase) (stored reg.Error x v.file) refl refl is fresh
  stored-ordered reg.Count x is fresh =
      plain-ordered (is_at_work v.file.phase) (stored reg.Count x v.file) refl refl is fresh
  stored-ordered reg.Low x is fresh =
      plain-ordered (is_at_work v.file.phase) (stored reg.Low x v.file) refl refl is fresh
  stored-ordered reg.Mid x is fresh =
      plain-ordered (is_at_work v.file.phase) (stored reg.Mid x v.file) refl refl is fresh
  stored-ordered reg.High x is fresh =
      plain-ordered (is_at_work v.file.phase) (stored reg.High x v.file) refl refl is fresh
  stored-ordered reg.Device x is fresh =
      plain-ordered (is_at_work v.file.phase) (stored reg.Device x v.file) refl refl is fresh
  stored-ordered reg.Status x is fresh = grind arith
  stored-ordered reg.Alternate x is fresh = control-ordered (has_bit SRST x) (bit_and x 134) is fresh
  stored-ordered reg.BusCommand x is fresh = absurd cc
  stored-ordered reg.BusStatus x is fresh = absurd cc

  -- a reset has no order
  reset-late : (r : Reg) (x : ℕ) → wrote r x v.file ≡ ResetBegun
      → is_just_taken (after_write r x v.file).phase ≡ false
  reset-late r x is = grind arith

  wrote-ordered : (w : Wrote) (r : Reg) (x : ℕ) → wrote r x v.file ≡ w
      → is_just_taken (view_wrote w (after_write r x v.file) n v).file.phase ≡ true
      → IsOrdered (view_wrote w (after_write r x v.file) n v) (view_wrote w (after_write r x v.file) n v).file.command n
  wrote-ordered Stored r x is fresh = stored-ordered r x is fresh
  wrote-ordered Ignored r x is fresh = fits.ordered fresh
  wrote-ordered (Command byte) r x is fresh = grind arith
  wrote-ordered ResetBegun r x is fresh = absurd (let late = reset-late r x is in cc)

  -- a write to any register
  write-fits : (of_bus : Bool) (r : Reg) (x : ℕ) → FitsView
      (if of_bus then record v { bus = bus_written r x v.bus }
      else view_wrote (wrote r x v.file) (after_write r x v.file) n v) n
  write-fits true r x = fits_of (record v { bus = bus_written r x v.bus }) n
      (bus_written_lawful r x v.file v.bus 256 n (state_of v n fits)) fits.ordered fits.served
  write-fits false r x = fits_of (view_wrote (wrote r x v.file) (after_write r x v.file) n v) n
      (wrote-lawful (wrote r x v.file) r x refl) (wrote-ordered (wrote r x v.file) r x refl)
      (wrote-served (wrote r x v.file) r x refl)

  -- a read of a register
  read-fits : (r : Reg) → FitsView (view_with_file (after_read r v.file) v) n
  read-fits r = grind arith

  -- a device whose registers and bus master are the view's
  device : Device
  device = record { file = v.file; bus = v.bus; block = replicate 256 0; cells = []; sectors = n }

  is_lawful : IsLawful device
  unfolding device
  is_lawful = subst (λ words. IsLawfulState v.file v.bus words n) (sym (length-replicate {A = ℕ} 256 0))
      (state_of v n fits)

  -- a read of Data
  data-fits : FitsView (view_with_phase (phase_after_read v.file.phase) v) n
  unfolding device
  data-fits = fits_of (view_with_phase (phase_after_read v.file.phase) v) n
      (subst (λ words. IsLawfulState (record v.file { phase = phase_after_read v.file.phase }) v.bus words n)
      (length-replicate {A = ℕ} 256 0) (accessed-lawful access.ReadWord device is_lawful))
      (λ fresh. subst (λ phase. is_just_taken phase ≡ true → IsOrdered (view_with_phase phase v) v.file.command n)
      (sym (read_phase v.file.phase fresh)) fits.ordered fresh) (read-served v.file.phase fits.served)

  -- a write of the pointer
  pointer-fits : (x : ℕ) → FitsView (record v { bus = pointer_written x v.bus }) n
  unfolding device
  pointer-fits x = fits_of (record v { bus = pointer_written x v.bus }) n
      (subst (λ words. IsLawfulState v.file (pointer_written x v.bus) words n)
      (length-replicate {A = ℕ} 256 0) (accessed-lawful (access.WritePointer x) device is_lawful)) fits.ordered
      fits.served

-- any access
pub fits_after : (a : Access) (v : View) (n : ℕ) → FitsView v n → FitsView (view_after a n v) n
fits_after (access.Read8 r) v n fits = read-fits v n fits r
fits_after (access.Write8 r x) v n fits = write-fits v n fits (is_of_bus r) r x
fits_after access.ReadWord v n fits = data-fits v n fits
fits_after (access.WriteWord w) v n fits =
    subst (λ phase. FitsView (view_with_phase phase v) n) (sym (unwanted v.file.phase fits.served)) fits
fits_after access.ReadPointer v n fits = fits
fits_after (access.WritePointer x) v n fits = pointer-fits v n fits x
fits_after access.Line v n fits = fits
