-- Drives that differ in the byte of the last command, the block and the cells alone: what an access and a step do to
-- them.
use Rattle.std.proofs.Common.{◌≡◌, ℕ, ◌+◌, ◌<◌, Bool, true, false, List, [], refl, ap, arith}
use Rattle.std.specs.Prelude.{if◌then◌else◌, nat_lt}
use Rattle.ata_taskfile.specs.declared.Form.{Form}
use Rattle.ata_taskfile.specs.declared.Form.TheVariants.{NoMove, PioIn, PioOut, DmaIn, DmaOut}
use Rattle.ata_taskfile.specs.declared.Request.{Request}
use Rattle.ata_taskfile.specs.declared.Taken.TheVariants.{Good, Bad}
use Rattle.ata_taskfile.specs.declared.Phase.{Phase}
use Rattle.ata_taskfile.specs.declared.Phase.TheVariants.{Reset, Idle, Busy, Ready}
use Rattle.ata_taskfile.specs.declared.Step.{Step}
use Rattle.ata_taskfile.specs.declared.Step.TheVariants as step
use Rattle.ata_taskfile.specs.declared.Access.{Access}
use Rattle.ata_taskfile.specs.Device.{Device, Cell}
use Rattle.ata_taskfile.specs.Access.{accessed, answer_to}
use Rattle.ata_taskfile.specs.Lawful.{position_of, position_end, has_possible_order}
use Rattle.bm_dma.specs.Move.{outcome, places_next, memory_after}
use Rattle.plain_drive.specs.Plain.{Plain, sector_value}
use Rattle.plain_drive.specs.Change.{leaves, change_made}
use Rattle.plain_drive.specs.Step.{acts, step_made, good_step_in, proceeded, sector_given, transferred}
use Rattle.plain_drive.specs.Alike.{block_matters, reads_sector, gives_command, ReadAlike}

-- a block matters after an access where it did before
pub matters_before : (a : Access) (d : Device) → block_matters (accessed a d).file.phase ≡ true
    → block_matters d.file.phase ≡ true
matters_before a d held = grind arith

-- without a new command the sectors that are read were read before
pub reads_before : (a : Access) (d : Device) (t : ℕ) → gives_command a d.file ≡ false
    → reads_sector (accessed a d).file.phase t ≡ true → reads_sector d.file.phase t ≡ true
reads_before a d t none read = grind arith

-- the sectors that are read after a step were read before it
pub step_reads : (s : Step) (p : Plain) (t : ℕ) → reads_sector (step_made s p).device.file.phase t ≡ true
    → reads_sector p.device.file.phase t ≡ true
step_reads s p t read = grind arith

-- a step after which sectors are read changes none
pub step_leaves : (s : Step) (p : Plain) (t : ℕ) → reads_sector (step_made s p).device.file.phase t ≡ true
    → change_made s p ≡ leaves
step_leaves s p t read = grind arith

-- a step leaves how many sectors the device says it has
pub step_sectors : (s : Step) (p : Plain) → (step_made s p).device.sectors ≡ p.device.sectors
step_sectors s p = grind arith

-- the order of a transfer by the bus master reads the sector that it gives next
pub due_read : (phase : Phase) (order : Request) (done : ℕ) → has_possible_order phase ≡ true
    → phase ≡ Busy (Good order) done → order.form ≡ DmaIn → nat_lt done order.count ≡ true
    → reads_sector phase (order.first + done) ≡ true
due_read phase order done possible busy form more = grind arith

module _ (c : ℕ) (block : List ℕ) (cells : List Cell) where
  -- the same device with another byte of the last command, another block and other cells
  abbrev pub dressed : Device → Device
  dressed d = record d { file = record d.file { command = c }; block = block; cells = cells }

  -- the same drive with another byte of the last command, another block and other cells
  abbrev pub dressed_drive : Plain → Plain
  dressed_drive p = record p { device = dressed p.device }

  -- answers, where a block that matters is the same
  pub answer_dressed : (a : Access) (d : Device) → (block_matters d.file.phase ≡ true → block ≡ d.block)
      → answer_to a (dressed d) ≡ answer_to a d
  answer_dressed a d same = grind arith

  -- all but that byte and the block after an access
  pub accessed_dressed : (a : Access) (d : Device)
      → record (accessed a (dressed d)) { file = record (accessed a (dressed d)).file { command = 0 }; block = [] }
      ≡ record (accessed a d) { file = record (accessed a d).file { command = 0 }; block = []; cells = cells }
  accessed_dressed a d = grind arith

  -- whether a step has an effect
  pub acts_dressed : (s : Step) (p : Plain) → acts s (dressed_drive p) ≡ acts s p
  acts_dressed s p = grind arith

  -- what a step does to the sectors, where a block that matters is the same
  pub change_dressed : (s : Step) (p : Plain) → (block_matters p.device.file.phase ≡ true → block ≡ p.device.block)
      → change_made s (dressed_drive p) ≡ change_made s p
  change_dressed s p same = grind arith

  -- registers after a step
  pub file_dressed : (s : Step) (p : Plain)
      → (step_made s (dressed_drive p)).device.file ≡ record (step_made s p).device.file { command = c }
  file_dressed s p = grind arith

  -- bus master after a step
  pub bus_dressed : (s : Step) (p : Plain) → (step_made s (dressed_drive p)).device.bus ≡ (step_made s p).device.bus
  bus_dressed s p = grind arith

  -- a block that matters after a step, where it and the sectors that are read were the same
  pub block_dressed : (s : Step) (p : Plain) → (block_matters p.device.file.phase ≡ true → block ≡ p.device.block)
      → ReadAlike p.device.file.phase p.device (dressed p.device)
      → position_of p.device.file.phase < position_end p.device.file.phase
      → block_matters (step_made s p).device.file.phase ≡ true
      → (step_made s (dressed_drive p)).device.block ≡ (step_made s p).device.block
  block_dressed s p same values below held = grind arith

  -- memory after a sector of a read by the bus master, where that has the same value
  given_dressed : (order : Request) (done : ℕ) (p : Plain) (more : Bool)
      → (more ≡ true
      → sector_value (order.first + done) (dressed p.device) ≡ sector_value (order.first + done) p.device)
      → (if more then sector_given order done (dressed_drive p) else transferred order (dressed_drive p)).memory
      ≡ (if more then sector_given order done p else transferred order p).memory
  given_dressed order done p true same =
      ap (λ value. memory_after (outcome p.device.bus p.memory) (places_next p.device.bus p.memory) value p.memory)
      (same refl)
  given_dressed order done p false same = grind arith

  proceeded_dressed : (form : Form) (order : Request) (done : ℕ) (p : Plain)
      → (form ≡ DmaIn → nat_lt done order.count ≡ true
      → sector_value (order.first + done) (dressed p.device) ≡ sector_value (order.first + done) p.device)
      → (proceeded form order done (dressed_drive p)).memory ≡ (proceeded form order done p).memory
  proceeded_dressed PioIn order done p same = refl
  proceeded_dressed PioOut order done p same = grind arith
  proceeded_dressed DmaIn order done p same = given_dressed order done p (nat_lt done order.count) (same refl)
  proceeded_dressed DmaOut order done p same = grind arith
  proceeded_dressed NoMove order done p same = refl

  stepped_dressed : (phase : Phase) (p : Plain)
      → ((order : Request) (done : ℕ) → phase ≡ Busy (Good order) done
      → order.form ≡ DmaIn → nat_lt done order.count ≡ true
      → sector_value (order.first + done) (dressed p.device) ≡ sector_value (order.first + done) p.device)
      → (good_step_in phase (dressed_drive p)).memory ≡ (good_step_in phase p).memory
  stepped_dressed Reset p same = grind arith
  stepped_dressed Idle p same = refl
  stepped_dressed (Ready taken done left) p same = refl
  stepped_dressed (Busy (Bad reason) done) p same = refl
  stepped_dressed (Busy (Good order) done) p same = proceeded_dressed order.form order done p (same order done refl)

  -- memory after a step, where the sector that the bus master gives next has the same value
  pub memory_dressed : (s : Step) (p : Plain)
      → ((order : Request) (done : ℕ) → p.device.file.phase ≡ Busy (Good order) done
      → order.form ≡ DmaIn → nat_lt done order.count ≡ true
      → sector_value (order.first + done) (dressed p.device) ≡ sector_value (order.first + done) p.device)
      → (step_made s (dressed_drive p)).memory ≡ (step_made s p).memory
  memory_dressed step.Good p same = stepped_dressed p.device.file.phase p same
  memory_dressed step.Bad p same = grind arith

-- an access does the same to the block where only byte and cells are others
pub block_accessed : (c : ℕ) (cells : List Cell) (a : Access) (d : Device)
    → (accessed a (dressed c d.block cells d)).block ≡ (accessed a d).block
block_accessed c cells a d = grind arith

-- an access where the byte of the last command alone is another
pub command_accessed : (c : ℕ) (a : Access) (d : Device)
    → record (accessed a (dressed c d.block d.cells d)) {
      file = record (accessed a (dressed c d.block d.cells d)).file { command = 0 };
    }
    ≡ record (accessed a d) { file = record (accessed a d).file { command = 0 } }
command_accessed c a d = grind arith

-- a step where the byte of the last command alone is another
pub command_stepped : (c : ℕ) (s : Step) (p : Plain)
    → step_made s (dressed_drive c p.device.block p.device.cells p)
    ≡ record (step_made s p) {
      device = record (step_made s p).device { file = record (step_made s p).device.file { command = c } };
    }
command_stepped c s p = grind arith
