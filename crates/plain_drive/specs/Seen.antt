-- What is seen of a drive whose cache isn't: its steps, its destages and its power cuts.
use Rattle.std.specs.Prelude.{ℕ, ◌≡◌, List, map, length, replicate}
use Rattle.ata_taskfile.specs.declared.Step.{Step}
use Rattle.ata_taskfile.specs.declared.Stepped.{Stepped}
use Rattle.ata_taskfile.specs.Device.{Cell}
use Rattle.plain_drive.specs.Plain.{Plain, with_cells}
use Rattle.plain_drive.specs.Step.{step_made, acts, stepped_if}
use Rattle.plain_drive.specs.Cut.{drive_at_power_on}
use Rattle.plain_drive.specs.Physical.{AreEndsOf}

-- a step of a drive that may let older values of its sectors go: the plain step but for these (own: the disk model)
pub record HasStepped (s : Step) (changed : Stepped) (old new : Plain) : Type 0 where
  pub answer : changed ≡ stepped_if (acts s old)
  pub after : new ≡ with_cells new.device.cells (step_made s old)
  pub cells : AreEndsOf new.device.cells (step_made s old).device.cells

-- a drive let older values of its sectors go, and did nothing else, as in a destage (own: the disk model)
pub record HasLetGo (old new : Plain) : Type 0 where
  pub after : new ≡ with_cells new.device.cells old
  pub cells : AreEndsOf new.device.cells old.device.cells

-- the durable value of each cell
abbrev pub durables : List Cell → List (List ℕ)
durables cells = map (λ cell. cell.durable) cells

-- a power cut: the drive is at power-on over its durable values, and memory is zeros (own: the disk model)
pub record HasCut (old new : Plain) : Type 0 where
  pub after : new ≡ drive_at_power_on (durables old.device.cells) old.device.sectors
      (replicate (length old.memory) 0)
