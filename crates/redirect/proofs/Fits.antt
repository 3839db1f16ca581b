-- A view whose bus master has tried a sector still fits.
use Rattle.std.proofs.Common.{◌≡◌, ℕ, ◌+◌, ◌<◌, ◌≤◌, List, true, ◌%◌, refl, sym, ap, ◌∙◌, arith}
use Rattle.std.specs.Prelude.{is_some}
use Rattle.ata_taskfile.specs.declared.Form.TheVariants.{DmaIn}
use Rattle.ata_taskfile.specs.declared.Request.{Request}
use Rattle.ata_taskfile.specs.declared.Taken.TheVariants.{Good}
use Rattle.ata_taskfile.specs.declared.Phase.{Phase}
use Rattle.ata_taskfile.specs.declared.Phase.TheVariants.{Busy}
use Rattle.ata_taskfile.specs.declared.bus_master.Bus.{Bus}
use Rattle.ata_taskfile.specs.Lawful.{has_order, has_possible_order, is_in_reset, is_just_taken, moved_by}
use Rattle.bm_dma.specs.declared.moves.Moved.{Moved}
use Rattle.bm_dma.specs.Move.{bus_next, outcome}
use Rattle.plain_drive.specs.Step.{position_after}
use Rattle.port_lease.specs.declared.view.View.{View}
use Rattle.guest_view.specs.Fits.{FitsView}

-- what is left of a bus master, with this walk, that has tried a sector: pointer and start stay, and a walk that goes
-- on has active, and has moved no more sectors than its command
record WalksOn (b e : Bus) (done : ℕ) : Type 0 where
  pub pointer : e.pointer ≡ b.pointer
  pub start : e.start ≡ b.start
  pub active : e.active ≡ true → b.active ≡ true
  pub walking : is_some e.walk ≡ true → e.active ≡ true
  pub moved : moved_by e.walk ≤ done

walks-on : (b : Bus) (memory : List ℕ) (done : ℕ) → (is_some b.walk ≡ true → b.active ≡ true)
    → moved_by b.walk ≤ done → WalksOn b (bus_next b memory) (position_after (outcome b memory) done)
walks-on b memory done active moved = record {
  pointer = grind arith;
  start = grind arith;
  active = grind arith;
  walking = grind arith;
  moved = grind arith;
}

-- a read that is just taken after a step stands where it stood before it
just_as_before : (phase : Phase) (order : Request) (done n : ℕ) → phase ≡ Busy (Good order) done → done ≤ n
    → is_just_taken (Busy (Good order) n) ≡ true → Busy (Good order) n ≡ phase
just_as_before phase order done n e more just =
    let none : n ≡ 0 = grind arith in
    let before : done ≡ 0 = omega arith in
    ap (λ k. Busy (Good order) k) (none ∙ sym before) ∙ sym e

-- a view at another position of an order, with another bus master
abbrev walked : Request → View → ℕ → Bus → View
walked order v n b = record { file = record v.file { phase = Busy (Good order) n }; bus = b }

fits-walked : (v : View) (order : Request) (done : ℕ) (memory : List ℕ) (sectors : ℕ)
    → v.file.phase ≡ Busy (Good order) done → order.form ≡ DmaIn → done < order.count
    → FitsView v sectors
    → FitsView (walked order v (position_after (outcome v.bus memory) done) (bus_next v.bus memory)) sectors
fits-walked v order done memory sectors phase form below fits =
    let n = position_after (outcome v.bus memory) done in
    let lawful = fits.lawful in
    let has : has_order v.file.phase ≡ true = ap has_order phase in
    let moved : moved_by v.bus.walk ≤ done = grind (arith, lawful.moved, phase, form) in
    let on : WalksOn v.bus (bus_next v.bus memory) n = walks-on v.bus memory done lawful.walking moved in
    let more : done ≤ n = grind arith in
    let most : n ≤ done + 1 = grind arith in
    let same : is_just_taken (Busy (Good order) n) ≡ true → Busy (Good order) n ≡ v.file.phase
    = just_as_before v.file.phase order done n phase more in
    let just : is_just_taken (Busy (Good order) n) ≡ true → is_just_taken v.file.phase ≡ true
    = λ first. sym (ap is_just_taken (same first)) ∙ first in
    record {
      lawful = record {
        kept = lawful.kept;
        held = λ held. sym (ap is_in_reset phase) ∙ lawful.held held;
        no_error = λ any. lawful.no_error has;
        not_failed = λ any. lawful.not_failed has;
        selected = λ first. lawful.selected (just first);
        acknowledged = λ first. lawful.acknowledged (just first);
        goes_on = record {
          possible = sym (ap has_possible_order phase) ∙ lawful.goes_on.possible;
          goes_on = rw form (omega (arith, most));
          some_left = refl;
          most_left = omega arith;
        };
        pointer = ap (λ p. p % 4) on.pointer ∙ lawful.pointer;
        active = λ active. on.start ∙ lawful.active (on.active active);
        walking = on.walking;
        moved = grind (arith, on.moved, form);
      };
      within = grind (arith, fits.within, phase);
      ordered = λ first. same first ∙ fits.ordered (just first);
      served = refl;
      pairs = fits.pairs;
    }

-- the same, by what a call answered
pub fits_walked : (v : View) (order : Request) (done : ℕ) (memory : List ℕ) (moved : Moved) (n : ℕ) (b : Bus)
    → v.file.phase ≡ Busy (Good order) done → order.form ≡ DmaIn → done < order.count
    → moved ≡ outcome v.bus memory → n ≡ position_after moved done → b ≡ bus_next v.bus memory
    → (sectors : ℕ) → FitsView v sectors → FitsView (walked order v n b) sectors
fits_walked v order done memory moved n b phase form below is at after sectors fits =
    rw (at, is, after) (fits-walked v order done memory sectors phase form below fits)
