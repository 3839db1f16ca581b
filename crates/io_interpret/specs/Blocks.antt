-- Sectors and ranges of sectors, and the empty blocks in which they lie: those that aren't filled.
use Rattle.std.specs.Prelude.{ℕ, Bool, if◌then◌else◌, Option, Some, None, List}
use Rattle.std.specs.List.{list_any, range_with_len}
use Rattle.fill_bitmap.specs.declared.area.Area.{Area}
use Rattle.fill_bitmap.specs.Area.{block_at}
use Rattle.fill_bitmap.specs.Disk.{is_empty_at}

-- the block of a sector, where that is empty
abbrev pub empty_block : Area → List Bool → ℕ → Option ℕ
empty_block area filled s = if is_empty_at area filled s then Some (block_at area s) else None

-- so many sectors from `first` on touch an empty block: one of them lies in one (own)
abbrev pub touches_empty : Area → List Bool → ℕ → ℕ → Bool
touches_empty area filled first count =
    list_any (is_empty_at area filled) (range_with_len first count)
