use Rattle.std.proofs.Common.{◌≡◌, ◌+◌, ◌-◌, take, drop}
use Rattle.fill_bitmap.specs.Bits.{byte_of}
use Rattle.fill_bitmap.proofs.block_set.byte_at.Given as goal

-- the byte has the bits of the blocks that are done, from the last one down
abbrev pub invariant-loop-i : goal.invariant-loop-i
invariant-loop-i l = l.byte ≡ byte_of (take (8 - l.i) (drop (l.b + l.i) l.blocks))
