-- How far the first piece of a range goes.
use Rattle.std.specs.Prelude.{ℕ, ◌+◌, ◌*◌, min}
use Rattle.fill_bitmap.specs.declared.area.Area.{Area}
use Rattle.fill_bitmap.specs.Area.{block_at}

-- the first multiple of a block's sectors above a sector: where the next block begins (own)
abbrev pub next_block : Area → ℕ → ℕ
next_block area s = (block_at area s + 1) * area.block

-- where the first piece of the sectors from `first` to `end` ends: at the next block, or at `end` (own)
abbrev pub piece_end : Area → ℕ → ℕ → ℕ
piece_end area first end = min (next_block area first) end
