-- Memory after bytes have moved to their places.
use Rattle.std.proofs.Common.{◌≡◌, ℕ, suc, List, [], ◌∷◌, length, set, refl, sym, arith, get_or-set_other, length-set, ◌∙◌}
use Rattle.bm_dma.specs.Memory.{byte_at, scattered, AreElsewhere}

-- it has as many bytes
pub length-scattered : (places bytes memory : List ℕ) → length (scattered places bytes memory) ≡ length memory
length-scattered [] bytes memory = refl
length-scattered (place ∷ places) [] memory = refl
length-scattered (place ∷ places) (byte ∷ bytes) memory =
    length-scattered places bytes (set memory place byte) ∙ length-set memory place byte

-- a byte whose place isn't named stays
pub elsewhere : (places bytes memory : List ℕ) (place : ℕ) → AreElsewhere place places
    → byte_at (scattered places bytes memory) place ≡ byte_at memory place
elsewhere [] bytes memory place apart = refl
elsewhere (first ∷ places) [] memory place apart = refl
elsewhere (first ∷ places) (byte ∷ bytes) memory place apart =
    elsewhere places bytes (set memory first byte) place (λ k d below. apart (suc k) d (omega arith))
    ∙ get_or-set_other memory first place byte 255 (λ e. apart 0 0 (omega arith) (sym e))
