-- The steps of a plain drive, by the phase of the command in hand.
use Rattle.std.specs.Prelude.{ℕ, Bool, true, false, not, ◌||◌, ◌+◌, ◌-◌, ◌==◌, if◌then◌else◌, nat_lt, ◌≡◌, zero, suc, List, []}
use Rattle.ata_taskfile.specs.declared.Kind.{Kind}
use Rattle.ata_taskfile.specs.declared.Kind.TheVariants as kind
use Rattle.ata_taskfile.specs.declared.Form.{Form}
use Rattle.ata_taskfile.specs.declared.Form.TheVariants.{NoMove, PioIn, PioOut, DmaIn, DmaOut}
use Rattle.ata_taskfile.specs.declared.Request.{Request}
use Rattle.ata_taskfile.specs.declared.Taken.TheVariants.{Good, Bad}
use Rattle.ata_taskfile.specs.declared.Phase.{Phase}
use Rattle.ata_taskfile.specs.declared.Phase.TheVariants.{Reset, Idle, Busy, Ready}
use Rattle.ata_taskfile.specs.declared.Step.{Step}
use Rattle.ata_taskfile.specs.declared.Step.TheVariants as step
use Rattle.ata_taskfile.specs.declared.Stepped.{Stepped}
use Rattle.ata_taskfile.specs.declared.Stepped.TheVariants.{Nothing, Changed}
use Rattle.ata_taskfile.specs.declared.registers.TheConstants.{UNC, ABRT, BLOCK_WORDS}
use Rattle.ata_taskfile.specs.declared.task_file.TaskFile.{TaskFile}
use Rattle.ata_taskfile.specs.Bus.{walk_ended}
use Rattle.ata_taskfile.specs.TaskFile.{holds_reset, reset_ended, refused, interrupted_in, ended_failed, addressed}
use Rattle.ata_taskfile.specs.Order.{has_range}
use Rattle.ata_taskfile.specs.Data.{moves_by_bus}
use Rattle.ata_taskfile.specs.Device.{Device, with_bus, with_phase, is_walking}
use Rattle.bm_dma.specs.declared.moves.Moved.{Moved}
use Rattle.bm_dma.specs.declared.moves.Moved.TheVariants.{Whole, Short, Outside, Waiting}
use Rattle.bm_dma.specs.Move.{outcome, bus_next, places_next, memory_after}
use Rattle.plain_drive.specs.Plain.{Plain, with_registers, with_cells, with_block, sector_value, words_of}
use Rattle.plain_drive.specs.Identify.{identity}
use Rattle.plain_drive.specs.Change.{cells_after, change_made}

-- a command that ends well: Idle, and an interrupt pends; Count and the LBA registers stay
abbrev pub ended : Plain → Plain
ended p = with_registers (interrupted_in Idle p.device.file) p

-- a block waits in Data, or is wanted there, and an interrupt pends
abbrev pub offered : Request → ℕ → List ℕ → Plain → Plain
offered order done block p =
    with_registers (interrupted_in (Ready (Good order) done BLOCK_WORDS) p.device.file)
    (with_block block p)

-- the words that a command gives: IDENTIFY DEVICE its own, any other those of the sector that is
-- due (ATA/ATAPI-6, PIO data-in)
abbrev pub words_due : Kind → ℕ → Device → List ℕ
words_due kind.Identify s d = identity d.sectors
words_due kind.Read s d = words_of (sector_value s d)
words_due kind.Write s d = words_of (sector_value s d)
words_due kind.Verify s d = words_of (sector_value s d)
words_due kind.Flush s d = words_of (sector_value s d)
words_due kind.Features s d = words_of (sector_value s d)

-- a command that gives words: they are loaded, and wait in Data (ATA/ATAPI-6, PIO data-in)
abbrev pub loaded : Request → ℕ → Plain → Plain
loaded order done p = offered order done (words_due order.kind (order.first + done) p.device) p

-- the first block of a write is wanted in Data, without an interrupt (ATA/ATAPI-6, PIO data-out)
abbrev pub first_wanted : Request → Plain → Plain
first_wanted order p =
    with_registers (record p.device.file { phase = Ready (Good order) 0 BLOCK_WORDS })
    (with_block [] p)

-- after a block was written: the next one is wanted, or the command has ended, and an interrupt
-- pends (ATA/ATAPI-6, PIO data-out)
abbrev pub next_wanted : Request → ℕ → Plain → Plain
next_wanted order done p = if nat_lt done order.count then offered order done [] p else ended p

-- a command that takes words: its first block is wanted, or the block that came is written and the
-- next one is wanted (ATA/ATAPI-6, PIO data-out)
abbrev pub received : Request → ℕ → Plain → Plain
received order done p = if done == 0 then first_wanted order p else next_wanted order done p

-- the drive without the walk of its command, where the bus master moves that; active stays (own)
abbrev pub without_walk : Form → Plain → Plain
without_walk form p =
    if moves_by_bus form
    then record p { device = with_bus (walk_ended p.device.bus) p.device }
    else p

-- one sector further after a whole one has moved; else the position stays (own)
abbrev pub position_after : Moved → ℕ → ℕ
position_after Whole done = done + 1
position_after (Short n) done = done
position_after Outside done = done
position_after Waiting done = done

-- the bus master has tried the next sector of its walk, if one is running, and the command stands
-- where that leaves it (Bus Master IDE 1.0, data transfer)
abbrev pub walked : Request → ℕ → Plain → Plain
walked order done p = record p {
  device = with_phase (Busy (Good order) (position_after (outcome p.device.bus p.memory) done))
      (with_bus (bus_next p.device.bus p.memory) p.device);
}

-- a sector of a read goes to memory, as far as the table names places for it
abbrev pub sector_given : Request → ℕ → Plain → Plain
sector_given order done p = record (walked order done p) {
  memory = memory_after (outcome p.device.bus p.memory) (places_next p.device.bus p.memory)
      (sector_value (order.first + done) p.device) p.memory;
}

-- a command whose sectors have all moved ends well, with its walk (ATA/ATAPI-6, DMA)
abbrev pub transferred : Request → Plain → Plain
transferred order p = ended (without_walk order.form p)

-- a good step of an order but for the sectors, one line for each way in which its data moves
abbrev pub proceeded : Form → Request → ℕ → Plain → Plain
proceeded PioIn order done p = loaded order done p
proceeded PioOut order done p = received order done p
proceeded DmaIn order done p =
    if nat_lt done order.count then sector_given order done p else transferred order p
proceeded DmaOut order done p =
    if nat_lt done order.count then walked order done p else transferred order p
proceeded NoMove order done p = ended p

-- a good step in a phase, but for the sectors; Idle and Ready wait for the guest, and Reset while
-- SRST is 1
abbrev pub good_step_in : Phase → Plain → Plain
good_step_in Reset p =
    if holds_reset p.device.file then p else with_registers (reset_ended p.device.file) p
good_step_in Idle p = p
good_step_in (Ready taken done left) p = p
good_step_in (Busy (Bad reason) done) p = with_registers (refused reason p.device.file) p
good_step_in (Busy (Good order) done) p = proceeded order.form order done p

-- the Error byte of an order that fails: a sector can't be had, or the command is given up
-- (ATA/ATAPI-6, Error register; own: which for which)
abbrev pub failure_bit : Kind → ℕ
failure_bit kind.Read = UNC
failure_bit kind.Write = ABRT
failure_bit kind.Verify = UNC
failure_bit kind.Flush = ABRT
failure_bit kind.Identify = ABRT
failure_bit kind.Features = ABRT

-- the last of so many sectors from the first on; the first itself where there is none
abbrev pub last_of : ℕ → ℕ → ℕ
last_of first count = if count == 0 then first else first + count - 1

-- the sector at which a transfer by the bus master fails: the one that is moved, or the last one
-- where all have moved (own)
abbrev pub moving_sector : Request → ℕ → ℕ
moving_sector order done =
    if nat_lt done order.count then order.first + done else last_of order.first order.count

-- the sector at which an order fails: the one that is read, the one whose block came last, the one
-- that the bus master moves, and without data the first (own)
abbrev pub failed_sector : Form → Request → ℕ → ℕ
failed_sector PioIn order done = order.first + done
failed_sector PioOut order done = last_of order.first done
failed_sector DmaIn order done = moving_sector order done
failed_sector DmaOut order done = moving_sector order done
failed_sector NoMove order done = order.first

-- the registers with the sector at which an order fails; those of a command without a range stay
-- (own)
abbrev pub failure_shown : Request → ℕ → TaskFile → TaskFile
failure_shown order done f =
    if has_range order.kind
    then addressed order.extended (failed_sector order.form order done) f
    else f

-- the failed end of an order: its Error, its sector, and its walk ends; no sector moves
abbrev pub given_up : Request → ℕ → Plain → Plain
given_up order done p =
    with_registers (ended_failed (failure_bit order.kind) (failure_shown order done p.device.file))
    (without_walk order.form p)

-- a bad step in a phase: it ends a command at which the drive is at work, and does nothing else
abbrev pub bad_step_in : Phase → Plain → Plain
bad_step_in Reset p = p
bad_step_in Idle p = p
bad_step_in (Ready taken done left) p = p
bad_step_in (Busy (Bad reason) done) p = with_registers (refused reason p.device.file) p
bad_step_in (Busy (Good order) done) p = given_up order done p

-- a step of either kind, but for the sectors
abbrev pub stepped_by : Step → Plain → Plain
stepped_by step.Good p = good_step_in p.device.file.phase p
stepped_by step.Bad p = bad_step_in p.device.file.phase p

-- a step of either kind: it goes well, or the work in hand fails
abbrev pub step_made : Step → Plain → Plain
step_made s p = with_cells (cells_after (change_made s p) p.device.cells) (stepped_by s p)

-- a step that goes well
abbrev pub good_step : Plain → Plain
good_step p = step_made step.Good p

-- a step at which the work in hand fails
abbrev pub bad_step : Plain → Plain
bad_step p = step_made step.Bad p

-- a good step of a transfer by the bus master has an effect: all sectors have moved, or a walk is
-- running (own)
abbrev pub transfers : Request → ℕ → Device → Bool
transfers order done d = not (nat_lt done order.count) || is_walking d

-- a good step of an order has an effect, but for one that waits for a walk
abbrev pub proceeds : Form → Request → ℕ → Device → Bool
proceeds PioIn order done d = true
proceeds PioOut order done d = true
proceeds DmaIn order done d = transfers order done d
proceeds DmaOut order done d = transfers order done d
proceeds NoMove order done d = true

-- whether a step has an effect in a phase
abbrev pub acts_in : Step → Phase → Plain → Bool
acts_in step.Good Reset p = not (holds_reset p.device.file)
acts_in step.Bad Reset p = false
acts_in s Idle p = false
acts_in s (Ready taken done left) p = false
acts_in s (Busy (Bad reason) done) p = true
acts_in step.Good (Busy (Good order) done) p = proceeds order.form order done p.device
acts_in step.Bad (Busy (Good order) done) p = true

-- whether a step has an effect
abbrev pub acts : Step → Plain → Bool
acts s p = acts_in s p.device.file.phase p

-- how a step answers that it had an effect, or none
abbrev pub stepped_if : Bool → Stepped
stepped_if true = Changed
stepped_if false = Nothing

-- the plain drive after so many good steps
abbrev pub went : ℕ → Plain → Plain
went zero p = p
went (suc n) p = good_step (went n p)

-- each of so many good steps has an effect
abbrev pub AllAct : ℕ → Plain → Type 0
AllAct zero p = Unit {0}
AllAct (suc n) p = AllAct n p × (acts step.Good (went n p) ≡ true)
