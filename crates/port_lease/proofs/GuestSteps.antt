-- A step of the drive is one of the drive that the guest sees on its side.
use Rattle.std.proofs.Common.{◌≡◌, ℕ, ◌+◌, List, [], Bool, true, false, not, ◌||◌, if◌then◌else◌, refl, sym, ap, ◌∙◌, arith}
use Rattle.std.specs.Prelude.{nat_lt, ◌==◌}
use Rattle.ata_taskfile.specs.declared.Kind.{Kind}
use Rattle.ata_taskfile.specs.declared.Kind.TheVariants as kind
use Rattle.ata_taskfile.specs.declared.Form.{Form}
use Rattle.ata_taskfile.specs.declared.Form.TheVariants.{NoMove, PioIn, PioOut, DmaIn, DmaOut}
use Rattle.ata_taskfile.specs.declared.Request.{Request}
use Rattle.ata_taskfile.specs.declared.Taken.TheVariants.{Good, Bad}
use Rattle.ata_taskfile.specs.declared.Phase.{Phase}
use Rattle.ata_taskfile.specs.declared.Phase.TheVariants.{Reset, Idle, Busy, Ready}
use Rattle.ata_taskfile.specs.declared.Step.{Step}
use Rattle.ata_taskfile.specs.declared.Step.TheVariants as step
use Rattle.ata_taskfile.specs.declared.registers.TheConstants.{BLOCK_WORDS}
use Rattle.ata_taskfile.specs.declared.task_file.TaskFile.{TaskFile}
use Rattle.ata_taskfile.specs.declared.bus_master.Bus.{Bus}
use Rattle.ata_taskfile.specs.TaskFile.{line, holds_reset, reset_ended, interrupted_in, refused, ended_failed}
use Rattle.ata_taskfile.specs.Data.{moves_by_bus}
use Rattle.ata_taskfile.specs.Bus.{walk_ended}
use Rattle.ata_taskfile.specs.Device.{Device, with_bus, is_walking}
use Rattle.bm_dma.proofs.Beside.{next_error}
use Rattle.bm_dma.specs.Move.{bus_next, outcome, places_next, memory_after, sector_after}
use Rattle.plain_drive.specs.Plain.{Plain, with_registers, with_block, with_cells, sector_value}
use Rattle.plain_drive.specs.Change.{change_in, change_proceeded, change_moved, cells_after}
use Rattle.plain_drive.specs.Step.{offered, words_due, ended, first_wanted, next_wanted, without_walk, walked, sector_given, transferred, proceeded, good_step_in, bad_step_in, failure_bit, failure_shown, given_up, transfers, proceeds, acts, acts_in, step_made, position_after}
use Rattle.port_lease.specs.declared.view.View.{View}
use Rattle.port_lease.specs.View.{uses_bus, IsGiven}
use Rattle.port_lease.specs.Seen.{on_guest_side, drive_on_guest_side}
use Rattle.port_lease.proofs.Guest.{seen, raised-seen}

-- other registers
registers-seen : (v : View) (g : TaskFile) (p : Plain)
    → drive_on_guest_side v (with_registers g p) ≡ with_registers g (drive_on_guest_side v p)
unfolding seen
registers-seen v g p = ap (λ b. record p { device = record p.device { file = g; bus = b } })
    (raised-seen (line p.device.file) (line g) (uses_bus v) v.bus p.device.bus)

-- the walk of a command goes on, or ends by itself
next-seen : (memory : List ℕ) (kept b : Bus)
    → seen true kept (bus_next b memory) ≡ bus_next (seen true kept b) memory
unfolding seen
next-seen memory kept b = sym (next_error memory kept.error b)

-- the command given moves sectors by the drive's bus master
moves : (v : View) (order : Request) (done : ℕ) (p : Plain) → p.device.file.phase ≡ Busy (Good order) done
    → IsGiven v p.device → moves_by_bus order.form ≡ true → uses_bus v ≡ true
moves v order done p e given m = grind (arith, given)

-- a step of an order whose sectors the bus master moves, which is then the drive's
module _ (v : View) (u : uses_bus v ≡ true) (order : Request) (done : ℕ) (p : Plain) where
  as-true : (b : Bus) → seen (uses_bus v) v.bus b ≡ seen true v.bus b
  as-true b = ap (λ m. seen m v.bus b) u

  same-outcome : outcome p.device.bus p.memory ≡ outcome (seen (uses_bus v) v.bus p.device.bus) p.memory
  unfolding seen
  same-outcome = ap (λ b. outcome b p.memory) (sym (as-true p.device.bus))

  same-places : places_next p.device.bus p.memory ≡ places_next (seen (uses_bus v) v.bus p.device.bus) p.memory
  unfolding seen
  same-places = ap (λ b. places_next b p.memory) (sym (as-true p.device.bus))

  next-bus : seen (uses_bus v) v.bus (bus_next p.device.bus p.memory)
      ≡ bus_next (seen (uses_bus v) v.bus p.device.bus) p.memory
  unfolding seen
  next-bus = as-true (bus_next p.device.bus p.memory)
      ∙ next-seen p.memory v.bus p.device.bus
      ∙ ap (λ b. bus_next b p.memory) (sym (as-true p.device.bus))

  walked-seen : drive_on_guest_side v (walked order done p) ≡ walked order done (drive_on_guest_side v p)
  unfolding seen
  walked-seen = λ i. record p {
    device = record p.device {
      file = record p.device.file { phase = Busy (Good order) (position_after (same-outcome i) done) };
      bus = next-bus i;
    };
  }

  given-seen : drive_on_guest_side v (sector_given order done p)
      ≡ sector_given order done (drive_on_guest_side v p)
  unfolding seen
  given-seen = λ i. record (walked-seen i) {
    memory = memory_after (same-outcome i) (same-places i) (sector_value (order.first + done) p.device) p.memory;
  }

  walking-seen : is_walking (on_guest_side v p.device) ≡ is_walking p.device
  unfolding seen
  walking-seen = ap (λ m. is_walking (with_bus (seen m v.bus p.device.bus) p.device)) u

-- the walk of a command ends with it
without-seen : (v : View) (p : Plain) (m : Bool) → (m ≡ true → uses_bus v ≡ true)
    → drive_on_guest_side v (if m then record p { device = with_bus (walk_ended p.device.bus) p.device } else p)
    ≡ (let q = drive_on_guest_side v p in
    if m then record q { device = with_bus (walk_ended q.device.bus) q.device } else q)
unfolding seen
without-seen v p false is = refl
without-seen v p true is =
    let u = is refl in
    ap (λ b. record p { device = with_bus b p.device })
    (ap (λ n. seen n v.bus (walk_ended p.device.bus)) u ∙ ap (λ n. walk_ended (seen n v.bus p.device.bus)) (sym u))

transferred-seen : (v : View) (order : Request) (p : Plain) → (moves_by_bus order.form ≡ true → uses_bus v ≡ true)
    → drive_on_guest_side v (transferred order p) ≡ transferred order (drive_on_guest_side v p)
transferred-seen v order p is =
    let q = without_walk order.form p in
    registers-seen v (interrupted_in Idle q.device.file) q
    ∙ ap ended (without-seen v p (moves_by_bus order.form) is)

given_up-seen : (v : View) (order : Request) (done : ℕ) (p : Plain)
    → (moves_by_bus order.form ≡ true → uses_bus v ≡ true)
    → drive_on_guest_side v (given_up order done p) ≡ given_up order done (drive_on_guest_side v p)
given_up-seen v order done p is =
    let g = ended_failed (failure_bit order.kind) (failure_shown order done p.device.file) in
    registers-seen v g (without_walk order.form p)
    ∙ ap (with_registers g) (without-seen v p (moves_by_bus order.form) is)

if-seen : (v : View) (b : Bool) (x y : Plain)
    → drive_on_guest_side v (if b then x else y) ≡ (if b then drive_on_guest_side v x else drive_on_guest_side v y)
if-seen v true x y = refl
if-seen v false x y = refl

both : {A : Type 0} (b : Bool) {x y z w : A} → x ≡ z → y ≡ w → (if b then x else y) ≡ (if b then z else w)
both true e f = e
both false e f = f

due-seen : (v : View) (k : Kind) (s : ℕ) (d : Device) → words_due k s d ≡ words_due k s (on_guest_side v d)
due-seen v kind.Identify s d = refl
due-seen v kind.Read s d = refl
due-seen v kind.Write s d = refl
due-seen v kind.Verify s d = refl
due-seen v kind.Flush s d = refl
due-seen v kind.Features s d = refl

-- a block that came, and what is wanted next
next_wanted-seen : (v : View) (order : Request) (done : ℕ) (p : Plain)
    → drive_on_guest_side v (next_wanted order done p) ≡ next_wanted order done (drive_on_guest_side v p)
next_wanted-seen v order done p =
    if-seen v (nat_lt done order.count) (offered order done [] p) (ended p)
    ∙ both (nat_lt done order.count)
    (registers-seen v (interrupted_in (Ready (Good order) done BLOCK_WORDS) p.device.file) (with_block [] p))
    (registers-seen v (interrupted_in Idle p.device.file) p)

proceeded-seen : (v : View) (form : Form) (order : Request) (done : ℕ) (p : Plain) → order.form ≡ form
    → (moves_by_bus order.form ≡ true → uses_bus v ≡ true)
    → drive_on_guest_side v (proceeded form order done p) ≡ proceeded form order done (drive_on_guest_side v p)
proceeded-seen v NoMove order done p e is = registers-seen v (interrupted_in Idle p.device.file) p
proceeded-seen v PioIn order done p e is =
    registers-seen v (interrupted_in (Ready (Good order) done BLOCK_WORDS) p.device.file)
    (with_block (words_due order.kind (order.first + done) p.device) p)
    ∙ ap (λ block. offered order done block (drive_on_guest_side v p))
    (due-seen v order.kind (order.first + done) p.device)
proceeded-seen v PioOut order done p e is =
    if-seen v (done == 0) (first_wanted order p) (next_wanted order done p)
    ∙ both (done == 0)
    (registers-seen v (record p.device.file { phase = Ready (Good order) 0 BLOCK_WORDS }) (with_block [] p))
    (next_wanted-seen v order done p)
proceeded-seen v DmaIn order done p e is =
    let u = is (ap moves_by_bus e) in
    if-seen v (nat_lt done order.count) (sector_given order done p) (transferred order p)
    ∙ both (nat_lt done order.count) (given-seen v u order done p) (transferred-seen v order p is)
proceeded-seen v DmaOut order done p e is =
    let u = is (ap moves_by_bus e) in
    if-seen v (nat_lt done order.count) (walked order done p) (transferred order p)
    ∙ both (nat_lt done order.count) (walked-seen v u order done p) (transferred-seen v order p is)

good-seen : (v : View) (phase : Phase) (p : Plain) → p.device.file.phase ≡ phase → IsGiven v p.device
    → drive_on_guest_side v (good_step_in phase p) ≡ good_step_in phase (drive_on_guest_side v p)
good-seen v Reset p e given =
    if-seen v (holds_reset p.device.file) p (with_registers (reset_ended p.device.file) p)
    ∙ both (holds_reset p.device.file) refl (registers-seen v (reset_ended p.device.file) p)
good-seen v Idle p e given = refl
good-seen v (Ready taken done left) p e given = refl
good-seen v (Busy (Bad reason) done) p e given = registers-seen v (refused reason p.device.file) p
good-seen v (Busy (Good order) done) p e given =
    proceeded-seen v order.form order done p refl (moves v order done p e given)

bad-seen : (v : View) (phase : Phase) (p : Plain) → p.device.file.phase ≡ phase → IsGiven v p.device
    → drive_on_guest_side v (bad_step_in phase p) ≡ bad_step_in phase (drive_on_guest_side v p)
bad-seen v Reset p e given = refl
bad-seen v Idle p e given = refl
bad-seen v (Ready taken done left) p e given = refl
bad-seen v (Busy (Bad reason) done) p e given = registers-seen v (refused reason p.device.file) p
bad-seen v (Busy (Good order) done) p e given = given_up-seen v order done p (moves v order done p e given)

-- what it does to the sectors is the same
proceeded-change : (v : View) (form : Form) (order : Request) (done : ℕ) (p : Plain) → order.form ≡ form
    → (moves_by_bus order.form ≡ true → uses_bus v ≡ true)
    → change_proceeded form order done p ≡ change_proceeded form order done (drive_on_guest_side v p)
unfolding seen
proceeded-change v NoMove order done p e is = refl
proceeded-change v PioIn order done p e is = refl
proceeded-change v PioOut order done p e is = refl
proceeded-change v DmaIn order done p e is = refl
proceeded-change v DmaOut order done p e is =
    let u = is (ap moves_by_bus e) in
    both (nat_lt done order.count)
    (λ i. change_moved (same-outcome v u order done p i) (order.first + done)
    (sector_after (same-outcome v u order done p i) (same-places v u order done p i) p.memory []))
    refl

good-change : (v : View) (phase : Phase) (p : Plain) → p.device.file.phase ≡ phase → IsGiven v p.device
    → change_in phase p ≡ change_in phase (drive_on_guest_side v p)
good-change v Reset p e given = refl
good-change v Idle p e given = refl
good-change v (Ready taken done left) p e given = refl
good-change v (Busy (Bad reason) done) p e given = refl
good-change v (Busy (Good order) done) p e given =
    proceeded-change v order.form order done p refl (moves v order done p e given)

-- whether it has an effect is the same
transfers-seen : (v : View) (order : Request) (done : ℕ) (p : Plain) → uses_bus v ≡ true
    → transfers order done (on_guest_side v p.device) ≡ transfers order done p.device
transfers-seen v order done p u = ap (λ w. not (nat_lt done order.count) || w) (walking-seen v u order done p)

proceeds-seen : (v : View) (form : Form) (order : Request) (done : ℕ) (p : Plain) → order.form ≡ form
    → (moves_by_bus order.form ≡ true → uses_bus v ≡ true)
    → proceeds form order done (on_guest_side v p.device) ≡ proceeds form order done p.device
proceeds-seen v NoMove order done p e is = refl
proceeds-seen v PioIn order done p e is = refl
proceeds-seen v PioOut order done p e is = refl
proceeds-seen v DmaIn order done p e is = transfers-seen v order done p (is (ap moves_by_bus e))
proceeds-seen v DmaOut order done p e is = transfers-seen v order done p (is (ap moves_by_bus e))

acts_in-seen : (s : Step) (v : View) (phase : Phase) (p : Plain) → p.device.file.phase ≡ phase → IsGiven v p.device
    → acts_in s phase (drive_on_guest_side v p) ≡ acts_in s phase p
acts_in-seen step.Good v Reset p e given = refl
acts_in-seen step.Bad v Reset p e given = refl
acts_in-seen step.Good v Idle p e given = refl
acts_in-seen step.Bad v Idle p e given = refl
acts_in-seen step.Good v (Ready taken done left) p e given = refl
acts_in-seen step.Bad v (Ready taken done left) p e given = refl
acts_in-seen step.Good v (Busy (Bad reason) done) p e given = refl
acts_in-seen step.Bad v (Busy (Bad reason) done) p e given = refl
acts_in-seen step.Good v (Busy (Good order) done) p e given =
    proceeds-seen v order.form order done p refl (moves v order done p e given)
acts_in-seen step.Bad v (Busy (Good order) done) p e given = refl

-- a step has an effect on the drive that the guest sees exactly where it has one on the drive
pub acts_seen : (v : View) (s : Step) (p : Plain) → IsGiven v p.device
    → acts s (drive_on_guest_side v p) ≡ acts s p
acts_seen v s p given = acts_in-seen s v p.device.file.phase p refl given

-- a step of the drive is one of the drive that the guest sees
pub step_seen : (v : View) (s : Step) (p : Plain) → IsGiven v p.device
    → drive_on_guest_side v (step_made s p) ≡ step_made s (drive_on_guest_side v p)
step_seen v step.Good p given =
    λ i. with_cells (cells_after (good-change v p.device.file.phase p refl given i) p.device.cells)
    (good-seen v p.device.file.phase p refl given i)
step_seen v step.Bad p given =
    λ i. with_cells p.device.cells (bad-seen v p.device.file.phase p refl given i)
