-- The steps of an order leave a lawful device lawful. What ends with `_registers` speaks of registers and bus
-- master alone, and what ends with `_lawful` of the whole state.
use Rattle.std.proofs.Common.{◌≡◌, ◌≢◌, ℕ, Bool, true, false, ◌+◌, ◌-◌, ◌<◌, ◌≤◌, List, length, Option, Some, None, refl, subst, arith}
use Rattle.std.specs.Prelude.{if◌then◌else◌, ◌==◌}
use Rattle.ata_taskfile.specs.declared.Phase.{Phase}
use Rattle.ata_taskfile.specs.declared.Phase.TheVariants.{Idle, Busy, Ready}
use Rattle.ata_taskfile.specs.declared.Request.{Request}
use Rattle.ata_taskfile.specs.declared.Taken.TheVariants.{Good}
use Rattle.ata_taskfile.specs.declared.task_file.TaskFile.{TaskFile}
use Rattle.ata_taskfile.specs.declared.bus_master.Bus.{Bus}
use Rattle.ata_taskfile.specs.TaskFile.{ended_failed, interrupted_in, addressed}
use Rattle.ata_taskfile.specs.Bus.{walk_ended}
use Rattle.ata_taskfile.specs.Order.{has_range}
use Rattle.ata_taskfile.specs.Data.{takes_words, moves_by_bus}
use Rattle.ata_taskfile.specs.Lawful.{AreLawful, HasTwoBytes, IsLawfulState}
use Rattle.bm_dma.specs.Run.{run_of, sector_places, is_tables_end}
use Rattle.bm_dma.proofs.Searching.{found_as}
use Rattle.bm_dma.specs.Move.{moved_as, outcome, outcome_in, bus_after, bus_next, bus_in}
use Rattle.plain_drive.specs.Step.{failure_shown, position_after}

-- a command that ends well
ended_registers : (phase : Phase) (order : Request) (done c device error : ℕ) (failed pending : Bool) (b : Bus)
    → phase ≡ Busy (Good order) done
    → moves_by_bus order.form ≡ false → AreLawful c device error failed pending phase b
    → AreLawful c device error failed true Idle b
ended_registers phase order done c device error failed pending b e still l = grind arith

pub ended_lawful : (f : TaskFile) (b : Bus) (words n : ℕ) (order : Request) (done : ℕ)
    → f.phase ≡ Busy (Good order) done → moves_by_bus order.form ≡ false
    → IsLawfulState f b words n → IsLawfulState (interrupted_in Idle f) b words n
ended_lawful f b words n order done e still l = record {
  registers = ended_registers f.phase order done f.control f.device f.error f.failed f.pending b e still l.registers;
  within = omega arith;
  block = refl;
  pairs = l.pairs;
}

-- a walk that ends
walk_ended_registers : (phase : Phase) (c device error : ℕ) (failed pending : Bool) (b : Bus)
    → AreLawful c device error failed pending phase b → AreLawful c device error failed pending phase (walk_ended b)
walk_ended_registers phase c device error failed pending b l = grind arith

pub walk_ended_lawful : (f : TaskFile) (b : Bus) (words n : ℕ) → IsLawfulState f b words n
    → IsLawfulState f (walk_ended b) words n
walk_ended_lawful f b words n l = record {
  registers = walk_ended_registers f.phase f.control f.device f.error f.failed f.pending b l.registers;
  within = l.within;
  block = l.block;
  pairs = l.pairs;
}

-- a command that ends well, with its walk
transferred_registers : (phase : Phase) (order : Request) (done c device error : ℕ) (failed pending : Bool) (b : Bus)
    → phase ≡ Busy (Good order) done
    → AreLawful c device error failed pending phase b → AreLawful c device error failed true Idle (walk_ended b)
transferred_registers phase order done c device error failed pending b e l = grind arith

pub transferred_lawful : (f : TaskFile) (b : Bus) (words n : ℕ) (order : Request) (done : ℕ)
    → f.phase ≡ Busy (Good order) done
    → IsLawfulState f b words n → IsLawfulState (interrupted_in Idle f) (walk_ended b) words n
transferred_lawful f b words n order done e l = record {
  registers = transferred_registers f.phase order done f.control f.device f.error f.failed f.pending b e l.registers;
  within = omega arith;
  block = refl;
  pairs = l.pairs;
}

-- a sector that the bus master has tried
found_registers : (whole last ended : Bool) (phase : Phase) (order : Request) (done c device error moved places : ℕ)
    (failed pending : Bool) (b : Bus)
    → phase ≡ Busy (Good order) done → moves_by_bus order.form ≡ true → done < order.count → b.walk ≡ Some moved
    → AreLawful c device error failed pending phase b
    → AreLawful c device error failed pending
    (Busy (Good order) (position_after (moved_as (found_as whole last ended) places) done))
    (bus_after (found_as whole last ended) moved b)
found_registers whole last ended phase order done c device error moved places failed pending b e moves more walks l =
    grind arith

walked_registers : (walk : Option ℕ) (memory : List ℕ) (phase : Phase) (order : Request) (done c device error : ℕ)
    (failed pending : Bool) (b : Bus) → b.walk ≡ walk
    → phase ≡ Busy (Good order) done → moves_by_bus order.form ≡ true → done < order.count
    → AreLawful c device error failed pending phase b
    → AreLawful c device error failed pending
    (Busy (Good order) (position_after (outcome_in walk b.pointer memory) done)) (bus_in walk memory b)
walked_registers None memory phase order done c device error failed pending b walks e moves more l =
    subst (λ x. AreLawful c device error failed pending x b) e l
walked_registers (Some moved) memory phase order done c device error failed pending b walks e moves more l =
    let run = run_of b.pointer memory in
    let places = length (sector_places moved run) in
    found_registers (places == 512) (is_tables_end moved run) run.ended phase order done c device
    error moved places failed pending b e moves more walks l

pub walked_lawful : (f : TaskFile) (b : Bus) (words n : ℕ) (order : Request) (done : ℕ) (memory : List ℕ)
    → f.phase ≡ Busy (Good order) done
    → moves_by_bus order.form ≡ true → done < order.count → IsLawfulState f b words n
    → IsLawfulState (record f { phase = Busy (Good order) (position_after (outcome b memory) done) })
    (bus_next b memory) words n
walked_lawful f b words n order done memory e moves more l = record {
  registers = walked_registers b.walk memory f.phase order done f.control f.device f.error f.failed
      f.pending b refl e moves more l.registers;
  within = let h = l.within in rw e at h;
  block = grind arith;
  pairs = l.pairs;
}

-- a block that is wanted in Data
wanted_registers : (phase : Phase) (order : Request) (done c device error : ℕ) (failed pending interrupts : Bool)
    (b : Bus) → phase ≡ Busy (Good order) done
    → takes_words order.form ≡ true → done < order.count → AreLawful c device error failed pending phase b
    → AreLawful c device error failed interrupts (Ready (Good order) done 256) b
wanted_registers phase order done c device error failed pending interrupts b e takes more l = grind arith

pub wanted_lawful : (f : TaskFile) (b : Bus) (words n : ℕ) (order : Request) (done : ℕ)
    → f.phase ≡ Busy (Good order) done → takes_words order.form ≡ true
    → done < order.count → IsLawfulState f b words n
    → IsLawfulState (interrupted_in (Ready (Good order) done 256) f) b 0 n
wanted_lawful f b words n order done e takes more l = record {
  registers = wanted_registers f.phase order done f.control f.device f.error f.failed f.pending
      true b e takes more l.registers;
  within = let h = l.within in rw e at h;
  block = grind arith;
  pairs = l.pairs;
}

-- a write has a first sector
some_sector : (phase : Phase) (order : Request) (done c device error : ℕ) (failed pending : Bool) (b : Bus)
    → phase ≡ Busy (Good order) done
    → takes_words order.form ≡ true → AreLawful c device error failed pending phase b → 0 < order.count
some_sector phase order done c device error failed pending b e takes l = grind arith

-- the first block of a write, which is wanted without an interrupt
pub first_wanted_lawful : (f : TaskFile) (b : Bus) (words n : ℕ) (order : Request) (done : ℕ)
    → f.phase ≡ Busy (Good order) done → done ≡ 0
    → takes_words order.form ≡ true → IsLawfulState f b words n
    → IsLawfulState (record f { phase = Ready (Good order) 0 256 }) b 0 n
first_wanted_lawful f b words n order done e start takes l =
    let e0 : f.phase ≡ Busy (Good order) 0 = rw (← start) e in
    record {
      registers = wanted_registers f.phase order 0 f.control f.device f.error f.failed f.pending f.pending b e0 takes
          (some_sector f.phase order 0 f.control f.device f.error f.failed f.pending b e0 takes l.registers)
          l.registers;
      within = let h = l.within in rw e at h;
      block = grind arith;
      pairs = l.pairs;
    }

-- a command that fails, with its walk
failed_registers : (phase : Phase) (order : Request) (done c device new error old : ℕ) (failed pending : Bool)
    (b : Bus) → phase ≡ Busy (Good order) done
    → AreLawful c device old failed pending phase b
    → AreLawful c new error true true Idle (if moves_by_bus order.form then walk_ended b else b)
failed_registers phase order done c device new error old failed pending b e l = grind arith

addressed-control : (extended : Bool) (sector : ℕ) (f : TaskFile) → (addressed extended sector f).control ≡ f.control
addressed-control false sector f = refl
addressed-control true sector f = refl

-- the sector that is shown leaves Device Control
shown-control : (order : Request) (done : ℕ) (f : TaskFile) → (failure_shown order done f).control ≡ f.control
shown-control order done f = grind (arith, addressed-control)

-- the sector that is shown leaves two bytes in each two-byte register
addressed-pairs : (extended : Bool) (sector : ℕ) (f : TaskFile) → HasTwoBytes f
    → HasTwoBytes (addressed extended sector f)
addressed-pairs false sector f two = record { count = two.count; low = refl; mid = refl; high = refl }
addressed-pairs true sector f two = record { count = two.count; low = refl; mid = refl; high = refl }

shown-pairs : (order : Request) (done : ℕ) (f : TaskFile) → HasTwoBytes f → HasTwoBytes (failure_shown order done f)
shown-pairs order done f two = grind (arith, addressed-pairs)

pub given_up_lawful : (error : ℕ) (f : TaskFile) (b : Bus) (words n : ℕ) (order : Request) (done : ℕ)
    → f.phase ≡ Busy (Good order) done
    → IsLawfulState f b words n
    → IsLawfulState (ended_failed error (failure_shown order done f))
    (if moves_by_bus order.form then walk_ended b else b) words n
given_up_lawful error f b words n order done e l = record {
  registers = rw (shown-control order done f)
      (failed_registers f.phase order done f.control f.device (failure_shown order done f).device
      error f.error f.failed f.pending b e l.registers);
  within = omega arith;
  block = refl;
  pairs = shown-pairs order done f l.pairs;
}

-- the sector of the block that came, which is whole
pub block_came : (f : TaskFile) (b : Bus) (words n : ℕ) (order : Request) (done : ℕ)
    → f.phase ≡ Busy (Good order) done → takes_words order.form ≡ true
    → done ≢ 0 → IsLawfulState f b words n → order.first + (done - 1) < n
block_came f b words n order done e takes some l = grind arith

pub block_whole : (f : TaskFile) (b : Bus) (words n : ℕ) (order : Request) (done : ℕ)
    → f.phase ≡ Busy (Good order) done → takes_words order.form ≡ true
    → done ≢ 0 → IsLawfulState f b words n → words ≡ 256
block_whole f b words n order done e takes some l = grind arith

-- no sector is done beyond the count
pub within_count : (f : TaskFile) (b : Bus) (words n : ℕ) (order : Request) (done : ℕ)
    → f.phase ≡ Busy (Good order) done → has_range order.kind ≡ true
    → IsLawfulState f b words n → done ≤ order.count
within_count f b words n order done e ranged l = grind arith

-- the sectors of the order are on the drive
pub order_within : (f : TaskFile) (b : Bus) (words n : ℕ) (order : Request) (done : ℕ)
    → f.phase ≡ Busy (Good order) done
    → IsLawfulState f b words n → order.first + order.count ≤ n
order_within f b words n order done e l = let h = l.within in rw e at h
