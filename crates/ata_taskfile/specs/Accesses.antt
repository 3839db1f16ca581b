-- Accesses of a device made one after the other.
use Rattle.std.specs.Prelude.{◌≡◌, List, [], ◌∷◌}
use Rattle.ata_taskfile.specs.declared.Access.{Access}
use Rattle.ata_taskfile.specs.declared.Answer.{Answer}
use Rattle.ata_taskfile.specs.Device.{Device}
use Rattle.ata_taskfile.specs.Access.{accessed, answer_to}

-- the device after all of these, the first one first
abbrev pub all_accessed : List Access → Device → Device
all_accessed [] d = d
all_accessed (first ∷ accesses) d = all_accessed accesses (accessed first d)

-- what they answer, one after the other
abbrev pub all_answered : List Access → Device → List Answer
all_answered [] d = []
all_answered (first ∷ accesses) d = answer_to first d ∷ all_answered accesses (accessed first d)

-- accesses lead from one device to the other, and nothing else does (own)
pub record Reaches (old new : Device) : Type 0 where
  pub accesses : List Access
  pub leads : new ≡ all_accessed accesses old
