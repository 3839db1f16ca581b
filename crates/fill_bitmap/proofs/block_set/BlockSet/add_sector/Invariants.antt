use Rattle.std.proofs.Common.{◌≡◌, ℕ, ◌<◌, ◌≤◌, length}
use Rattle.fill_bitmap.specs.BlockSet.{has, has_added}
use Rattle.fill_bitmap.proofs.block_set.BlockSet.add_sector.Given as goal

-- the blocks below `b` are as they are to be, and the others as they were
abbrev pub invariant-loop-b : goal.invariant-loop-b
invariant-loop-b l =
    (length l.self ≡ length l.fn.self)
    × ((j : ℕ) → j < l.b → has l.self j ≡ has_added l.k l.sector l.fn.self j)
    × ((j : ℕ) → l.b ≤ j → has l.self j ≡ has l.fn.self j)
