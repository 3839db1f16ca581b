use Rattle.std.proofs.Common.{◌≡◌, drop}
use Rattle.bm_dma.specs.Memory.{scattered}
use Rattle.bm_dma.proofs.moves.scatter.Given as goal

-- what is left to move gives the whole
abbrev pub invariant-loop-i : goal.invariant-loop-i
invariant-loop-i l = scattered (drop l.i l.places) (drop l.i l.sector) l.memory ≡ scattered l.places
    l.sector l.fn.memory
