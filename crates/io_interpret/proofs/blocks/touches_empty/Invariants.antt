use Rattle.std.proofs.Common.{◌≡◌, ℕ, ◌/◌, ◌<◌, ◌≤◌, true}
use Rattle.fill_bitmap.specs.BlockSet.{has}
use Rattle.io_interpret.proofs.blocks.touches_empty.Given as goal

-- the blocks of the range below `b` are filled
abbrev pub invariant-loop-b : goal.invariant-loop-b
invariant-loop-b l = (k : ℕ) → l.first / l.area.block ≤ k → k < l.b → has l.bitmap.filled k ≡ true
