-- What the registers of a bus master tell.
use Rattle.std.proofs.Common.{◌≡◌, ℕ, Bool, true, false, if◌then◌else◌, bit_or, Option, Some, None, is_some, refl}
use Rattle.ata_taskfile.specs.declared.bus_master.Bus.{Bus}
use Rattle.ata_taskfile.specs.declared.registers.TheConstants.{START, INWARD, ACTIVE, BUS_ERROR, INTERRUPT}
use Rattle.ata_taskfile.specs.TaskFile.{has_bit}
use Rattle.ata_taskfile.specs.Bus.{bit_shown, command_shown, status_shown}
use Rattle.ata_taskfile.specs.Lawful.{moved_by}

two : (s i : Bool) → (has_bit START (bit_or (bit_shown s START) (bit_shown i INWARD)) ≡ s) × (has_bit INWARD
    (bit_or (bit_shown s START) (bit_shown i INWARD)) ≡ i)
two true true = (refl, refl)
two true false = (refl, refl)
two false true = (refl, refl)
two false false = (refl, refl)

pub start_read : (b : Bus) → has_bit START (command_shown b) ≡ b.start
start_read b = (two b.start b.inward).0

pub inward_read : (b : Bus) → has_bit INWARD (command_shown b) ≡ b.inward
inward_read b = (two b.start b.inward).1

shown_of : Bool → Bool → Bool → ℕ
shown_of a e i = bit_or (bit_or (bit_shown a ACTIVE) (bit_shown e BUS_ERROR)) (bit_shown i INTERRUPT)

three : (a e i : Bool) → (has_bit ACTIVE (shown_of a e i) ≡ a) × (has_bit BUS_ERROR
    (shown_of a e i) ≡ e) × (has_bit INTERRUPT (shown_of a e i) ≡ i)
unfolding shown_of
three true true true = (refl, refl, refl)
three true true false = (refl, refl, refl)
three true false true = (refl, refl, refl)
three true false false = (refl, refl, refl)
three false true true = (refl, refl, refl)
three false true false = (refl, refl, refl)
three false false true = (refl, refl, refl)
three false false false = (refl, refl, refl)

pub active_read : (b : Bus) → has_bit ACTIVE (status_shown b) ≡ b.active
unfolding shown_of
active_read b = (three b.active b.error b.interrupt).0

pub error_read : (b : Bus) → has_bit BUS_ERROR (status_shown b) ≡ b.error
unfolding shown_of
error_read b = (three b.active b.error b.interrupt).1

pub interrupt_read : (b : Bus) → has_bit INTERRUPT (status_shown b) ≡ b.interrupt
unfolding shown_of
interrupt_read b = (three b.active b.error b.interrupt).2

-- a walk that moved nothing stands at its top
walk_at_top : (walk : Option ℕ) → moved_by walk ≡ 0 → (walking : Bool) → walking ≡ is_some walk
    → (if walking then Some 0 else None) ≡ walk
walk_at_top None none walking is = rw is refl
walk_at_top (Some moved) none walking is = rw (is, none) refl

-- the registers, the pointer and whether a walk is running tell all of a bus master whose walk moved nothing
pub all_read : (b : Bus) (start inward active error interrupt walking : Bool) (pointer : ℕ) → moved_by b.walk ≡ 0
    → start ≡ b.start → inward ≡ b.inward → active ≡ b.active → error ≡ b.error → interrupt ≡ b.interrupt
    → pointer ≡ b.pointer → walking ≡ is_some b.walk
    → (let all : Bus = record {
      start = start;
      inward = inward;
      active = active;
      error = error;
      interrupt =
          interrupt;
      pointer = pointer;
      walk = if walking then Some 0 else None;
    } in all) ≡ b
all_read b start inward active error interrupt walking pointer none s i a e n p w = let top =
    walk_at_top b.walk none walking w in rw (s, i, a, e, n, p, top) refl
