use Rattle.std.proofs.Common.{◌≡◌, ◌<◌, ℕ, get_or, length}
use Rattle.bm_dma.specs.Memory.{byte_at}
use Rattle.bm_dma.proofs.moves.gather.Given as goal

-- the bytes so far are those at their places
abbrev pub invariant-loop-i : goal.invariant-loop-i
invariant-loop-i l =
    (length l.sector ≡ 512) × ((j : ℕ) → j < l.i → get_or l.sector j 0 ≡ byte_at l.memory (get_or l.places j 0))
