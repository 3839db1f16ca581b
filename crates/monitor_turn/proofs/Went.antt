-- Good steps at which the bus master moves sectors of a read, and where those came from.
use Rattle.std.proofs.Common.{◌≡◌, ◌+◌, ◌<◌, ◌≤◌, ℕ, zero, suc, Bool, true, false, if◌then◌else◌, nat_lt, List, refl, sym, ap, ◌∙◌, arith}
use Rattle.ata_taskfile.specs.declared.Form.{Form}
use Rattle.ata_taskfile.specs.declared.Form.TheVariants.{DmaIn}
use Rattle.ata_taskfile.specs.declared.Request.{Request}
use Rattle.ata_taskfile.specs.declared.Taken.TheVariants.{Good}
use Rattle.ata_taskfile.specs.declared.Phase.{Phase}
use Rattle.ata_taskfile.specs.declared.Phase.TheVariants.{Busy}
use Rattle.bm_dma.specs.declared.moves.Moved.{Moved}
use Rattle.bm_dma.specs.declared.moves.Moved.TheVariants.{Whole, Short, Outside, Waiting}
use Rattle.bm_dma.specs.Move.{outcome}
use Rattle.plain_drive.specs.Plain.{Plain}
use Rattle.plain_drive.specs.Step.{good_step, good_step_in, position_after, proceeded, sector_given, transferred, went}
use Rattle.streaming.specs.Lines.{Line}
use Rattle.streaming.specs.Sources.{AllLoadSourced, IsSourced, loads}

-- a good step in a phase loads or moves the sector at which the order stands, if any
pub loaded_at : (phase : Phase) (order : Request) (done s : ℕ) → phase ≡ Busy (Good order) done
    → loads phase s ≡ true → s ≡ order.first + done
loaded_at phase order done s at is =
    let there : loads (Busy (Good order) done) s ≡ true = sym (ap (λ (phase : Phase). loads phase s) at) ∙ is in
    grind (arith, there)

-- a read that the bus master moves, so many steps further: it stands between where it stood and so many sectors on
record StandsFurther (order : Request) (done n : ℕ) (q : Plain) : Type 0 where
  pub position : ℕ
  pub at : q.device.file.phase ≡ Busy (Good order) position
  pub least : done ≤ position
  pub most : position ≤ done + n

moved_least : (moved : Moved) (done : ℕ) → done ≤ position_after moved done
moved_least Whole done = omega arith
moved_least (Short n) done = omega arith
moved_least Outside done = omega arith
moved_least Waiting done = omega arith

moved_most : (moved : Moved) (done : ℕ) → position_after moved done ≤ done + 1
moved_most Whole done = omega arith
moved_most (Short n) done = omega arith
moved_most Outside done = omega arith
moved_most Waiting done = omega arith

given_if : (below : Bool) (order : Request) (done : ℕ) (q : Plain) → below ≡ true
    → (if below then sector_given order done q else transferred order q).device.file.phase
    ≡ Busy (Good order) (position_after (outcome q.device.bus q.memory) done)
given_if true order done q is = refl
given_if false order done q is = absurd cc

-- one step
step_further : (order : Request) (done : ℕ) (q : Plain) → q.device.file.phase ≡ Busy (Good order) done
    → order.form ≡ DmaIn → done < order.count
    → (good_step q).device.file.phase ≡ Busy (Good order) (position_after (outcome q.device.bus q.memory) done)
step_further order done q at form below =
    ap (λ (phase : Phase). (good_step_in phase q).device.file.phase) at
    ∙ ap (λ (form : Form). (proceeded form order done q).device.file.phase) form
    ∙ given_if (nat_lt done order.count) order done q (grind (arith, below))

went_further : (n : ℕ) (order : Request) (done : ℕ) (q : Plain) → q.device.file.phase ≡ Busy (Good order) done
    → order.form ≡ DmaIn → done + n ≤ order.count → StandsFurther order done n (went n q)
went_further zero order done q at form within =
    record { position = done; at = at; least = omega arith; most = omega arith }
went_further (suc n) order done q at form within =
    let r = went n q in
    let before = went_further n order done q at form (omega (arith, within)) in
    let moved = outcome r.device.bus r.memory in
    record {
      position = position_after moved before.position;
      at = step_further order before.position r before.at form (omega (arith, within, before.most));
      least = omega (arith, before.least, moved_least moved before.position);
      most = omega (arith, before.most, moved_most moved before.position);
    }

-- where each sector of the read up to one has a source, so has each that so many steps move, which go no further
pub all_sourced : (n image : ℕ) (order : Request) (done end : ℕ) (q : Plain) (lines : List Line)
    → q.device.file.phase ≡ Busy (Good order) done → order.form ≡ DmaIn → end ≤ order.first + order.count
    → order.first + done + n ≤ end
    → ((s : ℕ) → order.first + done ≤ s → s < end → IsSourced image s lines) → AllLoadSourced image n q lines
all_sourced zero image order done end q lines at form within few each = tt
all_sourced (suc n) image order done end q lines at form within few each = (
  all_sourced n image order done end q lines at form within (omega (arith, few)) each,
  λ s is.
      let there = went_further n order done q at form (omega (arith, within, few)) in
      let here = loaded_at (went n q).device.file.phase order there.position s there.at is in
      each s (omega (arith, here, there.least)) (omega (arith, here, there.most, few)),
)
