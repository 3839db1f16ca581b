-- So many bytes are the value of a sector.
use Rattle.std.proofs.Common.{◌≡◌, ℕ, ◌<◌, suc, List, [], ◌∷◌, length, get_or, arith}
use Rattle.std.proofs.lemmas.List.Elements.{All-cons, All-nil}
use Rattle.ata_taskfile.specs.Sectors.{AreBytes, IsSector}

are_bytes : (numbers : List ℕ) → ((k : ℕ) → get_or numbers k 0 < 256) → AreBytes numbers
are_bytes [] small = All-nil (λ number. number < 256)
are_bytes (x ∷ numbers) small =
    All-cons (λ number. number < 256) x numbers (small 0) (are_bytes numbers (λ k. small (suc k)))

pub is_sector : (bytes : List ℕ) → length bytes ≡ 512 → ((k : ℕ) → get_or bytes k 0 < 256) → IsSector bytes
is_sector bytes size small = record { size = size; bytes = are_bytes bytes small }
