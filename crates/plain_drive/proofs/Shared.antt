-- Drives that differ in their cells alone, but not in the current value of a sector.
use Rattle.std.proofs.Common.{◌≡◌, ℕ, ◌+◌, List, [], slice_index_or, refl, sym, ◌∙◌, arith}
use Rattle.ata_taskfile.specs.declared.Step.{Step}
use Rattle.ata_taskfile.specs.declared.Access.{Access}
use Rattle.ata_taskfile.specs.Device.{Device, Cell}
use Rattle.ata_taskfile.specs.Access.{accessed, answer_to}
use Rattle.plain_drive.specs.Plain.{Plain, current, settled, sector_value, with_cells}
use Rattle.plain_drive.specs.Change.{change_made, cells_after}
use Rattle.plain_drive.specs.Step.{step_made, acts}
use Rattle.plain_drive.proofs.Dressed.{answer_dressed, acts_dressed, change_dressed, file_dressed, bus_dressed, memory_dressed, step_sectors}

-- the same device with other cells
abbrev pub celled : List Cell → Device → Device
celled cells d = record d { cells = cells }

-- an access does the same where cells alone are others, and leaves these
pub accessed_shared : (cells : List Cell) (a : Access) (d : Device)
    → accessed a (celled cells d) ≡ celled cells (accessed a d)
accessed_shared cells a d = grind arith

-- an access has the same answer where cells alone are others
pub answer_shared : (cells : List Cell) (a : Access) (d : Device) → answer_to a (celled cells d) ≡ answer_to a d
answer_shared cells a d = answer_dressed d.file.command d.block cells a d (λ held. refl)

-- a step has an effect or none whatever the cells are
pub acts_shared : (cells : List Cell) (s : Step) (p : Plain) → acts s (with_cells cells p) ≡ acts s p
acts_shared cells s p = acts_dressed p.device.file.command p.device.block cells s p

-- a step makes the same change whatever the cells are
pub change_shared : (cells : List Cell) (s : Step) (p : Plain) → change_made s (with_cells cells p) ≡ change_made s p
change_shared cells s p = change_dressed p.device.file.command p.device.block cells s p (λ held. refl)

-- cells with the same current values
module _ (cells : List Cell) (p : Plain) (same : (s : ℕ)
    → current (slice_index_or cells s (settled [])) ≡ sector_value s p.device) where
  block_shared : (s : Step) → (step_made s (with_cells cells p)).device.block ≡ (step_made s p).device.block
  block_shared s = grind arith

  -- each step does the same, but that its change is made to the other cells
  pub step_shared : (s : Step) → step_made s (with_cells cells p) ≡ with_cells (cells_after (change_made s p) cells)
      (step_made s p)
  step_shared s =
      let byte = p.device.file.command in
      let block = p.device.block in
      λ i. record {
        device = record {
          file = (file_dressed byte block cells s p ∙ sym (file_dressed byte block p.device.cells s p)) i;
          bus = bus_dressed byte block cells s p i;
          block = block_shared s i;
          cells = cells_after (change_shared cells s p i) cells;
          sectors = (step_sectors s (with_cells cells p) ∙ sym (step_sectors s p)) i;
        };
        memory = memory_dressed byte block cells s p (λ order done busy form more. same (order.first + done)) i;
      }
