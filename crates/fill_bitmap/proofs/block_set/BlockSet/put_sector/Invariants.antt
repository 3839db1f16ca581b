use Rattle.std.proofs.Common.{◌≡◌, ℕ, ◌<◌, ◌+◌, ◌*◌, get_or, length}
use Rattle.fill_bitmap.specs.Bits.{byte_from}
use Rattle.fill_bitmap.proofs.block_set.BlockSet.put_sector.Given as goal

-- the bytes so far are those of the blocks
abbrev pub invariant-loop-i : goal.invariant-loop-i
invariant-loop-i l =
    (length l.into ≡ 512) × ((j : ℕ) → j < l.i → get_or l.into j 0 ≡ byte_from (l.first + 8 * j) l.self)
