-- Steps without an effect.
use Rattle.std.proofs.Common.{◌≡◌, ℕ, ◌+◌, [], Bool, true, false, not, ◌||◌, Option, Some, None, refl, sym, ap, ◌∙◌, arith}
use Rattle.std.specs.Prelude.{if◌then◌else◌, nat_lt, is_some}
use Rattle.ata_taskfile.specs.declared.Form.{Form}
use Rattle.ata_taskfile.specs.declared.Form.TheVariants.{NoMove, PioIn, PioOut, DmaIn, DmaOut}
use Rattle.ata_taskfile.specs.declared.Request.{Request}
use Rattle.ata_taskfile.specs.declared.Taken.TheVariants.{Good, Bad}
use Rattle.ata_taskfile.specs.declared.Phase.{Phase}
use Rattle.ata_taskfile.specs.declared.Phase.TheVariants.{Reset, Idle, Busy, Ready}
use Rattle.ata_taskfile.specs.declared.Step.{Step}
use Rattle.ata_taskfile.specs.declared.Step.TheVariants as step
use Rattle.ata_taskfile.specs.Device.{is_walking}
use Rattle.bm_dma.specs.declared.moves.Moved.TheVariants.{Waiting}
use Rattle.bm_dma.specs.Move.{outcome, outcome_in, bus_next, bus_in, places_next, memory_after, sector_after}
use Rattle.plain_drive.specs.Plain.{Plain, sector_value, with_cells}
use Rattle.plain_drive.specs.Change.{leaves, cells_after, change_in, change_proceeded, change_walked, change_moved}
use Rattle.plain_drive.specs.Step.{proceeds, proceeded, acts, acts_in, good_step_in, bad_step_in, good_step, step_made, walked, sector_given, transferred, position_after}

no_walk : (walk : Option ℕ) → is_some walk ≡ false → walk ≡ None
no_walk None still = refl
no_walk (Some moved) still = absurd cc

-- no step of an order whose walk isn't running
no_step : (more walks : Bool) → not more || walks ≡ false → (more ≡ true) × (walks ≡ false)
no_step true false idle = (refl, refl)
no_step true true idle = absurd cc
no_step false walks idle = absurd cc

-- without a walk the bus master waits, and nothing changes
module _ (order : Request) (done : ℕ) (p : Plain) (e : p.device.file.phase ≡ Busy (Good order) done)
    (still : is_walking p.device ≡ false) where
  waits : outcome p.device.bus p.memory ≡ Waiting
  waits = ap (λ walk. outcome_in walk p.device.bus.pointer p.memory) (no_walk p.device.bus.walk still)

  bus_stays : bus_next p.device.bus p.memory ≡ p.device.bus
  bus_stays = ap (λ walk. bus_in walk p.memory p.device.bus) (no_walk p.device.bus.walk still)

  phase_stays : Busy (Good order) (position_after (outcome p.device.bus p.memory) done) ≡ p.device.file.phase
  phase_stays = ap (λ moved. Busy (Good order) (position_after moved done)) waits ∙ sym e

  walked_no : walked order done p ≡ p
  walked_no = λ i. record p {
    device = record p.device {
      file = record p.device.file { phase = phase_stays i };
      bus =
          bus_stays i;
    };
  }

  sector_given_no : sector_given order done p ≡ p
  sector_given_no =
      ap (λ moved. record (walked order done p) {
        memory = memory_after moved (places_next p.device.bus p.memory)
            (sector_value (order.first + done) p.device) p.memory;
      }) waits
      ∙ walked_no

-- an order that makes no step
proceeded_no : (form : Form) (order : Request) (done : ℕ) (p : Plain) → p.device.file.phase ≡ Busy (Good order) done
    → proceeds form order done p.device ≡ false → proceeded form order done p ≡ p
proceeded_no NoMove order done p e idle = absurd cc
proceeded_no PioIn order done p e idle = absurd cc
proceeded_no PioOut order done p e idle = absurd cc
proceeded_no DmaIn order done p e idle =
    let no = no_step (nat_lt done order.count) (is_walking p.device) idle in
    ap (λ more. if more then sector_given order done p else transferred order p) no.0
    ∙ sector_given_no order done p e no.1
proceeded_no DmaOut order done p e idle =
    let no = no_step (nat_lt done order.count) (is_walking p.device) idle in
    ap (λ more. if more then walked order done p else transferred order p) no.0 ∙ walked_no order done p e no.1

stepped_no : (phase : Phase) (p : Plain) → p.device.file.phase ≡ phase → acts_in step.Good phase p ≡ false
    → good_step_in phase p ≡ p
stepped_no Reset p e idle = grind arith
stepped_no Idle p e idle = refl
stepped_no (Ready taken done left) p e idle = refl
stepped_no (Busy (Bad reason) done) p e idle = absurd cc
stepped_no (Busy (Good order) done) p e idle = proceeded_no order.form order done p e idle

failed_no : (phase : Phase) (p : Plain) → acts_in step.Bad phase p ≡ false → bad_step_in phase p ≡ p
failed_no Reset p idle = refl
failed_no Idle p idle = refl
failed_no (Ready taken done left) p idle = refl
failed_no (Busy (Bad reason) done) p idle = absurd cc
failed_no (Busy (Good order) done) p idle = absurd cc

-- nor does it change a sector
proceeded_leaves : (form : Form) (order : Request) (done : ℕ) (p : Plain) → proceeds form order done p.device ≡ false
    → change_proceeded form order done p ≡ leaves
proceeded_leaves NoMove order done p idle = absurd cc
proceeded_leaves PioIn order done p idle = refl
proceeded_leaves PioOut order done p idle = absurd cc
proceeded_leaves DmaIn order done p idle = refl
proceeded_leaves DmaOut order done p idle =
    let no = no_step (nat_lt done order.count) (is_walking p.device) idle in
    ap (λ more. if more then change_walked order done p else leaves) no.0
    ∙ ap (λ walk. change_moved (outcome_in walk p.device.bus.pointer p.memory) (order.first + done)
    (sector_after (outcome_in walk p.device.bus.pointer p.memory) (places_next p.device.bus p.memory) p.memory []))
    (no_walk p.device.bus.walk no.1)

stepped_leaves : (phase : Phase) (p : Plain) → acts_in step.Good phase p ≡ false → change_in phase p ≡ leaves
stepped_leaves Reset p idle = refl
stepped_leaves Idle p idle = refl
stepped_leaves (Ready taken done left) p idle = refl
stepped_leaves (Busy (Bad reason) done) p idle = refl
stepped_leaves (Busy (Good order) done) p idle = proceeded_leaves order.form order done p idle

-- a good step without effect leaves the drive as it is
pub good_step_no : (p : Plain) → acts step.Good p ≡ false → good_step p ≡ p
good_step_no p idle =
    let change = stepped_leaves p.device.file.phase p idle in
    let stays = stepped_no p.device.file.phase p refl idle in
    λ i. with_cells (cells_after (change i) p.device.cells) (stays i)

-- any step without effect does
pub step_made_no : (s : Step) (p : Plain) → acts s p ≡ false → step_made s p ≡ p
step_made_no step.Good p idle = good_step_no p idle
step_made_no step.Bad p idle = ap (with_cells p.device.cells) (failed_no p.device.file.phase p idle)
