-- A physical drive is seen as one that may let older values of its sectors go.
use Rattle.std.proofs.Common.{◌≡◌, ℕ, suc, List, [], ◌∷◌, length, replicate, refl, sym, ap, ◌∙◌}
use Rattle.ata_taskfile.specs.declared.Step.{Step}
use Rattle.write_cache.specs.declared.entry.Entry.{Entry}
use Rattle.plain_drive.specs.Plain.{stored, with_cells}
use Rattle.plain_drive.specs.Change.{change_made}
use Rattle.plain_drive.specs.Step.{acts, stepped_if}
use Rattle.plain_drive.specs.Physical.{Physical, cells_of, cells_from, seen, physical_step, physical_destaged, physical_cut}
use Rattle.plain_drive.specs.Seen.{HasStepped, HasLetGo, HasCut, durables}
use Rattle.plain_drive.proofs.CellEnds.{changed_ends, destaged_ends, no_entries-stored}
use Rattle.plain_drive.proofs.EndsOfEnds.{ends-same}

-- the durable values of the cells are those that the drive keeps
durables-kept : (n : ℕ) (entries : List Entry) (durable : List (List ℕ))
    → durables (cells_from n entries durable) ≡ durable
durables-kept n entries [] = refl
durables-kept n entries (value ∷ durable) = ap (λ l. value ∷ l) (durables-kept (suc n) entries durable)

pub step_seen : (s : Step) (p : Physical)
    → HasStepped s (stepped_if (acts s (seen p))) (seen p) (seen (physical_step s p))
step_seen s p = record {
  answer = refl;
  after = refl;
  cells = changed_ends (change_made s (seen p)) p.kept (cells_of p.kept) (ends-same (cells_of p.kept));
}

pub destage_seen : (n : ℕ) (p : Physical) → HasLetGo (seen p) (seen (physical_destaged n p))
destage_seen n p =
    record { after = refl; cells = destaged_ends n p.kept (cells_of p.kept) (ends-same (cells_of p.kept)) }

pub cut_seen : (p : Physical) → HasCut (seen p) (seen (physical_cut (replicate (length p.memory) 0) p))
cut_seen p =
    let cells = no_entries-stored 0 p.kept.durable
    ∙ ap stored (sym (durables-kept 0 p.kept.cache.entries p.kept.durable)) in
    record { after = λ i. with_cells (cells i) (seen (physical_cut (replicate (length p.memory) 0) p)) }
