-- The guest's side after an access that reaches the drive.
use Rattle.std.proofs.Common.{◌≡◌, ℕ, ◌+◌, ◌-◌, Bool, true, false, not, ◌&&◌, if◌then◌else◌, refl, ap, ◌∙◌, arith}
use Rattle.std.specs.Prelude.{nat_lt}
use Rattle.ata_taskfile.specs.declared.Reg.{Reg}
use Rattle.ata_taskfile.specs.declared.Request.{Request}
use Rattle.ata_taskfile.specs.declared.Taken.TheVariants.{Good, Bad}
use Rattle.ata_taskfile.specs.declared.Phase.{Phase}
use Rattle.ata_taskfile.specs.declared.Phase.TheVariants.{Reset, Idle, Busy, Ready}
use Rattle.ata_taskfile.specs.declared.Access.{Access}
use Rattle.ata_taskfile.specs.declared.Access.TheVariants as access
use Rattle.ata_taskfile.specs.Access.{accessed}
use Rattle.ata_taskfile.specs.Data.{block_read, gives_words, phase_after_read, phase_after_write, takes_words, word_given, word_taken}
use Rattle.ata_taskfile.specs.Device.{Device}
use Rattle.ata_taskfile.proofs.Cells.{accessed-sectors}
use Rattle.port_lease.specs.declared.guest_side.GuestSide.{GuestSide}
use Rattle.port_lease.specs.Sides.{view_kept}
use Rattle.port_lease.specs.View.{IsGiven, IsKept, is_command, is_walk_access, reached, uses_bus}
use Rattle.guest_view.specs.View.{is_reset}
use Rattle.monitor_state.specs.declared.state.State.TheVariants.{Guest}
use Rattle.monitor_state.specs.declared.parts.Parts.{Parts}
use Rattle.monitor_state.specs.Classes.{class_of_order, is_drives_class, is_drives_in}
use Rattle.monitor_state.specs.Fits.{Fits}

reached_sectors : (kept : Bool) (a : Access) (d : Device) → (if kept then d else accessed a d).sectors ≡ d.sectors
reached_sectors true a d = refl
reached_sectors false a d = accessed-sectors a d

-- a word goes on with an order that the drive gets, or ends it
module _ (p : Parts) (order : Request) (done left : ℕ)
    (gets : is_drives_class (class_of_order (Good order) p) ≡ true) where
  block_order : (more : Bool) → is_drives_in (if more then Busy (Good order) (done + 1) else Idle) p ≡ true
  block_order true = gets
  block_order false = refl

  given_order : (more : Bool)
      → is_drives_in (if more then Ready (Good order) done (left - 1) else block_read order done) p ≡ true
  given_order true = gets
  given_order false = block_order (nat_lt (done + 1) order.count)

  taken_order : (more : Bool)
      → is_drives_in (if more then Ready (Good order) done (left - 1) else Busy (Good order) (done + 1)) p ≡ true
  taken_order true = gets
  taken_order false = gets

  read_order : (gives : Bool)
      → is_drives_in (if gives then word_given order done left else Ready (Good order) done left) p ≡ true
  read_order true = given_order (nat_lt 1 left)
  read_order false = gets

  written_order : (takes : Bool)
      → is_drives_in (if takes then word_taken order done left else Ready (Good order) done left) p ≡ true
  written_order true = taken_order (nat_lt 1 left)
  written_order false = gets

word_read_order : (phase : Phase) (p : Parts) → is_drives_in phase p ≡ true
    → is_drives_in (phase_after_read phase) p ≡ true
word_read_order Reset p gets = refl
word_read_order Idle p gets = refl
word_read_order (Busy order done) p gets = gets
word_read_order (Ready (Good order) done left) p gets = read_order p order done left gets (gives_words order.form)
word_read_order (Ready (Bad reason) done left) p gets = refl

word_written_order : (phase : Phase) (p : Parts) → is_drives_in phase p ≡ true
    → is_drives_in (phase_after_write phase) p ≡ true
word_written_order Reset p gets = refl
word_written_order Idle p gets = refl
word_written_order (Busy order done) p gets = gets
word_written_order (Ready (Good order) done left) p gets =
    written_order p order done left gets (takes_words order.form)
word_written_order (Ready (Bad reason) done left) p gets = refl

register_read : (r : Reg) (d : Device) → (accessed (access.Read8 r) d).file.phase ≡ d.file.phase
register_read r d = grind arith

register_written : (r : Reg) (x : ℕ) (d : Device) → is_command (access.Write8 r x) ≡ false
    → is_reset (access.Write8 r x) ≡ false → (accessed (access.Write8 r x) d).file.phase ≡ d.file.phase
register_written r x d other runs = grind arith

accessed_order : (a : Access) (d : Device) (p : Parts) → is_command a ≡ false → is_reset a ≡ false
    → is_drives_in d.file.phase p ≡ true → is_drives_in (accessed a d).file.phase p ≡ true
accessed_order (access.Read8 r) d p other runs gets = ap (λ phase. is_drives_in phase p) (register_read r d) ∙ gets
accessed_order (access.Write8 r x) d p other runs gets =
    ap (λ phase. is_drives_in phase p) (register_written r x d other runs) ∙ gets
accessed_order access.ReadWord d p other runs gets = word_read_order d.file.phase p gets
accessed_order (access.WriteWord w) d p other runs gets = word_written_order d.file.phase p gets
accessed_order access.ReadPointer d p other runs gets = gets
accessed_order (access.WritePointer x) d p other runs gets = gets
accessed_order access.Line d p other runs gets = gets

-- an access that is no command and begins no reset goes on with an order that the drive gets, or ends it
reached_order : (kept : Bool) (a : Access) (d : Device) (p : Parts) → is_command a ≡ false → is_reset a ≡ false
    → is_drives_in d.file.phase p ≡ true → is_drives_in (if kept then d else accessed a d).file.phase p ≡ true
reached_order true a d p other runs gets = gets
reached_order false a d p other runs gets = accessed_order a d p other runs gets

-- the guest's side fits parts and a drive that an access reached
pub guest_fits : (old new : GuestSide) (p : Parts) (a : Access) (d e : Device)
    → e ≡ reached (view_kept old) a d → IsKept (view_kept new) e.file → IsGiven (view_kept new) e
    → is_command a ≡ false → is_reset a ≡ false → Fits (Guest old) p d → Fits (Guest new) p e
guest_fits old new p a d e is kept given other runs fits = record {
  parts = record {
    area = fits.parts.area;
    leased = record { held = fits.parts.leased.held; counted = fits.parts.leased.counted };
    state = fits.parts.state;
  };
  device = (
    kept,
    given,
    ap (λ (f : Device). is_drives_in f.file.phase p) is
        ∙ reached_order (is_walk_access a && not (uses_bus (view_kept old))) a d p other runs fits.device.2,
  );
  sectors = ap (λ (f : Device). f.sectors) is
      ∙ reached_sectors (is_walk_access a && not (uses_bus (view_kept old))) a d ∙ fits.sectors;
}
