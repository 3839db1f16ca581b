-- A physical drive stands for a plain one through each access, step, destage and cut.
use Rattle.std.proofs.Common.{◌≡◌, ℕ, List, refl, sym, ap, ◌∙◌, subst}
use Rattle.ata_taskfile.specs.declared.Access.{Access}
use Rattle.ata_taskfile.specs.declared.Step.{Step}
use Rattle.ata_taskfile.specs.Device.{Cell}
use Rattle.ata_taskfile.specs.Access.{answer_to, accessed}
use Rattle.plain_drive.specs.Plain.{Plain, with_cells}
use Rattle.plain_drive.specs.Change.{change_made, cells_after}
use Rattle.plain_drive.specs.Step.{step_made, acts}
use Rattle.plain_drive.specs.Cut.{IsOutcome, drive_at_power_on}
use Rattle.plain_drive.specs.Physical.{Kept, Physical, StandsFor, AreEndsOf, cells_of, fresh, kept_after, keeping, seen, physical_accessed, physical_step, physical_destaged, physical_at_power_on, physical_cut}
use Rattle.plain_drive.proofs.CellEnds.{ends-current, changed_ends, destaged_ends, durable_alone_ends, ends-outcome}
use Rattle.ata_taskfile.proofs.Cells.{accessed-cells}
use Rattle.plain_drive.proofs.Shared.{accessed_shared, answer_shared, acts_shared, change_shared, step_shared}

-- a drive that keeps this stands for a plain one that differs in its cells alone, where these are ends
stands_from : (k : Kept) (q p : Plain) (cells : List Cell) → q ≡ with_cells cells p
    → AreEndsOf (cells_of k) p.device.cells → StandsFor (keeping k q) p
stands_from k q p cells same ends = record {
  file = ap (λ (r : Plain). r.device.file) same;
  bus = ap (λ (r : Plain). r.device.bus) same;
  block = ap (λ (r : Plain). r.device.block) same;
  sectors = ap (λ (r : Plain). r.device.sectors) same;
  memory = ap (λ (r : Plain). r.memory) same;
  cells = ends;
}

-- a physical drive at power-on stands for a plain one over its durable values
pub fresh_stands : (durable : List (List ℕ)) (room sectors : ℕ) (memory : List ℕ)
    → StandsFor (physical_at_power_on (fresh room durable) sectors memory) (drive_at_power_on durable sectors memory)
fresh_stands durable room sectors memory =
    record { file = refl; bus = refl; block = refl; sectors = refl; memory = refl; cells = durable_alone_ends durable }

module _ (physical : Physical) (p : Plain) (stands : StandsFor physical p) where
  -- it is seen as the plain one with other cells
  pub seen_as : seen physical ≡ with_cells (cells_of physical.kept) p
  seen_as = λ i. record {
    device = record {
      file = stands.file i;
      bus = stands.bus i;
      block = stands.block i;
      cells = cells_of physical.kept;
      sectors = stands.sectors i;
    };
    memory = stands.memory i;
  }

  -- it answers the same
  pub same_answer : (a : Access) → answer_to a (seen physical).device ≡ answer_to a p.device
  same_answer a = ap (λ (r : Plain). answer_to a r.device) seen_as ∙ answer_shared (cells_of physical.kept) a p.device

  -- its steps have an effect where the plain one's do
  pub same_acts : (s : Step) → acts s (seen physical) ≡ acts s p
  same_acts s = ap (acts s) seen_as ∙ acts_shared (cells_of physical.kept) s p

  -- and change the same
  pub same_change : (s : Step) → change_made s (seen physical) ≡ change_made s p
  same_change s = ap (change_made s) seen_as ∙ change_shared (cells_of physical.kept) s p

  -- its durable values are a cut outcome
  pub durable_are_outcome : IsOutcome p.device.cells physical.kept.durable
  durable_are_outcome = ends-outcome 0 physical.kept.cache.entries physical.kept.durable p.device.cells stands.cells

  pub access_stands : (a : Access) → StandsFor (physical_accessed a physical)
      (record p { device = accessed a p.device })
  access_stands a =
      let cells = cells_of physical.kept in
      let accesses : record (seen physical) { device = accessed a (seen physical).device } ≡ with_cells cells
      (record p { device = accessed a p.device })
      = ap (λ (r : Plain). record r { device = accessed a r.device }) seen_as ∙ ap (λ d. record p { device = d })
      (accessed_shared cells a p.device) in
      stands_from physical.kept (record (seen physical) { device = accessed a (seen physical).device })
      (record p { device = accessed a p.device }) cells accesses
      (subst (λ c. AreEndsOf cells c) (sym (accessed-cells a p.device)) stands.cells)

  pub step_stands : (s : Step) → StandsFor (physical_step s physical) (step_made s p)
  step_stands s =
      let cells = cells_of physical.kept in
      let same = ap (step_made s) seen_as ∙ step_shared cells p
      (λ sector. ends-current cells p.device.cells sector stands.cells) s in
      let changed = subst (λ change. AreEndsOf (cells_of (kept_after change physical.kept))
      (cells_after (change_made s p) p.device.cells))
      (sym (same_change s)) (changed_ends (change_made s p) physical.kept p.device.cells stands.cells) in
      stands_from (kept_after (change_made s (seen physical)) physical.kept) (step_made s (seen physical))
      (step_made s p)
      (cells_after (change_made s p) cells) same changed

  pub destage_stands : (n : ℕ) → StandsFor (physical_destaged n physical) p
  destage_stands n = record {
    file = stands.file;
    bus = stands.bus;
    block = stands.block;
    sectors = stands.sectors;
    memory = stands.memory;
    cells = destaged_ends n physical.kept p.device.cells stands.cells;
  }

  pub cut_stands : (memory : List ℕ) → StandsFor (physical_cut memory physical)
      (drive_at_power_on physical.kept.durable p.device.sectors memory)
  cut_stands memory =
      record {
        file = refl;
        bus = refl;
        block = refl;
        sectors = stands.sectors;
        memory = refl;
        cells =
            durable_alone_ends physical.kept.durable;
      }
