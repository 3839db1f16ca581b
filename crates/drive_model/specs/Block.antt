-- The block in transfer, as a drive keeps it.
use Rattle.std.specs.Prelude.{ℕ, List, take}

-- so many words of a block
abbrev pub block_of : List ℕ → ℕ → List ℕ
block_of block words = take words block
