-- Which block is filled before a write may have the drive: the lowest empty one that its range touches.
use Rattle.std.specs.Prelude.{ℕ, ◌≡◌, ◌<◌, ◌+◌, ◌*◌, Bool, true, false, Option, Some, None, List}
use Rattle.std.specs.List.{find, range_with_len}
use Rattle.ata_taskfile.specs.declared.Request.{Request}
use Rattle.fill_bitmap.specs.declared.area.Area.{Area}
use Rattle.fill_bitmap.specs.Area.{block_at, blocks_of}
use Rattle.fill_bitmap.specs.BlockSet.{has}
use Rattle.fill_bitmap.specs.Bitmap.{Sets}
use Rattle.fill_bitmap.specs.Disk.{is_empty_at}
use Rattle.write_gate.specs.declared.gating.Gated.{Gated}
use Rattle.write_gate.specs.declared.gating.Gated.TheVariants.{Fill, Pass}

-- the first of so many sectors from `first` on that lies in an empty block
abbrev pub first_in_empty : Area → List Bool → ℕ → ℕ → Option ℕ
first_in_empty area filled first count =
    find (is_empty_at area filled) (range_with_len first count)

-- the gate of a range by its first sector in an empty block: that block is filled first, and without one it is
-- passed (own)
abbrev pub gated_at : Area → Option ℕ → Gated
gated_at area (Some s) = Fill (block_at area s)
gated_at area None = Pass

-- the gate of a request
abbrev pub gate_of : Request → Area → Sets → Gated
gate_of request area sets =
    gated_at area (first_in_empty area sets.filled request.first request.count)

-- so many sectors from `first` on have a sector of block `b`
pub record TouchesBlock (area : Area) (first count b : ℕ) : Type 0 where
  pub some : 0 < count
  pub begins : first < (b + 1) * area.block
  pub ends : b * area.block < first + count

-- `b` is the lowest empty block that so many sectors from `first` on touch
pub record IsLowestEmpty (area : Area) (filled : List Bool) (first count b : ℕ) : Type 0 where
  pub inside : b < blocks_of area
  pub empty : has filled b ≡ false
  pub touched : TouchesBlock area first count b
  pub lowest : (k : ℕ) → k < b → TouchesBlock area first count k → has filled k ≡ true

-- what is said of the block that a gate names
abbrev pub IfFill : Gated → (ℕ → Type 0) → Type 0
IfFill (Fill b) holds = holds b
IfFill Pass holds = Unit {0}
