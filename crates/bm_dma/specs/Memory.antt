-- The guest's memory, as a list of bytes, and places in it.
use Rattle.std.specs.Prelude.{ℕ, ◌≢◌, List, All, [], ◌∷◌, slice_index_or, slice_set}

-- the byte at a place; FFh outside of memory (own)
abbrev pub byte_at : List ℕ → ℕ → ℕ
byte_at memory place = slice_index_or memory place 255

-- bytes moved to their places, one after the other, so that the last one at a place stays (own)
abbrev pub scattered : List ℕ → List ℕ → List ℕ → List ℕ
scattered [] bytes memory = memory
scattered (place ∷ places) [] memory = memory
scattered (place ∷ places) (byte ∷ bytes) memory =
    scattered places bytes (slice_set memory place byte)

-- no byte of these has this place
abbrev pub AreElsewhere : ℕ → List ℕ → Type 0
AreElsewhere place places = All (λ named. named ≢ place) places
