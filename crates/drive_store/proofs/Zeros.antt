-- Zeros are the value of a sector.
use Rattle.std.proofs.Common.{◌≡◌, ℕ, ◌<◌, zero, suc, replicate, length, refl, arith}
use Rattle.std.proofs.lemmas.List.{length-replicate}
use Rattle.std.proofs.lemmas.List.Elements.{All-replicate}
use Rattle.ata_taskfile.specs.Sectors.{IsSector}

pub zeros : IsSector (replicate 512 0)
zeros = record { size = length-replicate {A = ℕ} 512 0; bytes = All-replicate (λ number. number < 256) 512 0 (omega arith) }
