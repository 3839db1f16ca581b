-- The values of cells: after a write, after a flush, after older ones were forgotten, and after a cut.
use Rattle.std.proofs.Common.{◌≡◌, ◌≢◌, ℕ, zero, suc, ◌<◌, List, [], ◌∷◌, length, map, get_or, arith, refl, ap, sym, ◌==◌, if◌then◌else◌, inl, inr}
use Rattle.std.proofs.Math.Path.{subst}
use Rattle.std.specs.Prelude.{All, Contains}
use Rattle.std.proofs.lemmas.Bool.Decides.{eqb_tells}
use Rattle.std.proofs.lemmas.List.{get_or_default, length-map}
use Rattle.std.proofs.lemmas.List.Elements.{All-cons, All-contains}
use Rattle.ata_taskfile.specs.Device.{Cell}
use Rattle.plain_drive.specs.Plain.{current, values, settled, flushed, appended, all_flushed}
use Rattle.plain_drive.specs.Cut.{IsOutcome}
use Rattle.plain_drive.proofs.Cells.{contained_alone, current_is_a_value, appended-others}
use Rattle.fill_bitmap.specs.Disk.{sector_at}
use Rattle.plain_drive.specs.Cells.{cell_at, value_at, Each, ForgetsOld}

-- one element alone
alone : (P : List ℕ → Type 0) (x : List ℕ) → P x → All P (x ∷ [])
alone P x here = All-cons P x [] here (λ k d below. absurd (omega arith))

-- the newest value of a sector is one of its values
pub newest : (P : List ℕ → Type 0) (s : ℕ) (cells : List Cell) → Each P s cells → P (value_at s cells)
newest P s cells each =
    let cell : Cell = cell_at s cells in
    All-contains P (values cell) (current cell) each (current_is_a_value cell)

-- what each value of a sector is, and what follows from it
pub each_map : (P Q : List ℕ → Type 0) (s : ℕ) (cells : List Cell) → ((value : List ℕ) → P value → Q value)
    → Each P s cells → Each Q s cells
each_map P Q s cells follows each k d below = follows (get_or (values (cell_at s cells)) k d) (each k d below)

-- the values of a sector after a write to one
pub each_written : (P : List ℕ → Type 0) (s other : ℕ) (bytes : List ℕ) (cells : List Cell)
    → (other ≡ s → P bytes) → Each P other cells → Each P other (appended s bytes cells)
each_written P s other bytes [] new each = each
each_written P zero zero bytes (cell ∷ cells) new each = All-cons P bytes (values cell) (new refl) each
each_written P zero (suc other) bytes (cell ∷ cells) new each = each
each_written P (suc s) zero bytes (cell ∷ cells) new each = each
each_written P (suc s) (suc other) bytes (cell ∷ cells) new each = each_written P s other bytes cells
    (λ e. new (ap suc e)) each

-- the newest value of another sector stays where one is written
pub other_written : (s other : ℕ) (bytes : List ℕ) (cells : List Cell) → other ≢ s
    → value_at other (appended s bytes cells) ≡ value_at other cells
other_written s other bytes cells apart = ap current (appended-others s other bytes cells apart)

-- a flush leaves as many cells
pub length-all_flushed : (cells : List Cell) → length (all_flushed cells) ≡ length cells
length-all_flushed cells = length-map cells flushed

cell_flushed : (s : ℕ) (cells : List Cell) → cell_at s (all_flushed cells) ≡ flushed (cell_at s cells)
cell_flushed s [] = refl
cell_flushed zero (cell ∷ cells) = refl
cell_flushed (suc s) (cell ∷ cells) = cell_flushed s cells

-- after a flush the newest value of a sector is its only one
pub each_flushed : (P : List ℕ → Type 0) (s : ℕ) (cells : List Cell) → P (value_at s cells)
    → Each P s (all_flushed cells)
each_flushed P s cells new = subst (λ cell. All P (values cell)) (sym (cell_flushed s cells))
    (alone P (value_at s cells) new)

-- after a flush the newest value of a sector is what it was
pub newest_flushed : (s : ℕ) (cells : List Cell) → value_at s (all_flushed cells) ≡ value_at s cells
newest_flushed s cells = ap current (cell_flushed s cells)

-- the newest value of a sector is all that a flush leaves of it
pub flushed_alone : (s : ℕ) (cells : List Cell) (value : List ℕ)
    → Contains (values (cell_at s (all_flushed cells))) value
    → value ≡ value_at s cells
flushed_alone s cells value held =
    contained_alone (value_at s cells) value (subst (λ cell. Contains (values cell) value) (cell_flushed s cells) held)

-- a flush forgets the older values
pub flush_forgets : (cells : List Cell) → ForgetsOld cells (all_flushed cells)
flush_forgets cells = record {
  cells = length-all_flushed cells;
  newest = λ s. newest_flushed s cells;
  values = λ s value held.
      let only = flushed_alone s cells value held in
      subst (Contains (values (cell_at s cells))) (sym only) (current_is_a_value (cell_at s cells));
}

-- what each value of a sector is, each is where older ones were forgotten
pub each_forgets : (P : List ℕ → Type 0) (s : ℕ) (old new : List Cell) → ForgetsOld old new → Each P s old
    → Each P s new
each_forgets P s old new forgets each k d below =
    let xs : List (List ℕ) = values (cell_at s new) in
    let x : List ℕ = get_or xs k d in
    All-contains P (values (cell_at s old)) x each (forgets.values s x (k, below, get_or_default xs k x d below))

-- a cut leaves of each sector one of its values
in_outcome : (s : ℕ) (cells : List Cell) (outcome : List (List ℕ)) → s < length cells → IsOutcome cells outcome
    → Contains (values (cell_at s cells)) (sector_at s outcome)
in_outcome s [] outcome below left = absurd (omega arith)
in_outcome s (cell ∷ cells) [] below left = absurd left
in_outcome zero (cell ∷ cells) (value ∷ outcome) below left = left.0
in_outcome (suc s) (cell ∷ cells) (value ∷ outcome) below left = in_outcome s cells outcome (omega arith) left.1

-- what each value of a sector is, a cut leaves of it
pub left_by_cut : (P : List ℕ → Type 0) (s : ℕ) (cells : List Cell) (outcome : List (List ℕ)) → s < length cells
    → Each P s cells → IsOutcome cells outcome → P (sector_at s outcome)
left_by_cut P s cells outcome below each left =
    All-contains P (values (cell_at s cells)) (sector_at s outcome) each (in_outcome s cells outcome below left)

-- at power-on a sector has one value
pub at_power_on : (P : List ℕ → Type 0) (s : ℕ) (disk : List (List ℕ)) → s < length disk → P (sector_at s disk)
    → Each P s (map settled disk)
at_power_on P s [] below here = absurd (omega arith)
at_power_on P zero (value ∷ disk) below here = alone P value here
at_power_on P (suc s) (value ∷ disk) below here = at_power_on P s disk (omega arith) here

-- a test of two numbers, and what holds both ways
pub on_test : {X : Type 0} (P : X → Type 0) (k n : ℕ) (same other : X) → (k ≡ n → P same) → P other
    → P (if k == n then same else other)
on_test P k n same other at_same else_on = elim (eqb_tells k n) [
  | inl (test, e) ↦ rw test (at_same e)
  | inr (test, apart) ↦ rw test else_on
]
