-- Bytes as sectors, one after the other.
use Rattle.std.proofs.Common.{◌≡◌, ◌+◌, ◌*◌, ◌++◌, ℕ, ◌<◌, zero, suc, List, [], ◌∷◌, length, take, drop, slice_index_or, All, refl, ap, ◌∙◌, arith, length-append}
use Rattle.std.specs.List.{concat}
use Rattle.std.proofs.lemmas.List.{drop-drop, take_at, drop_at}
use Rattle.plain_drive.specs.Plain.{sectors_in}

-- one sector more
pub sectors_in-more : (n : ℕ) (bytes : List ℕ) → sectors_in (n + 1) bytes ≡ sectors_in n bytes ++ take 512
    (drop (n * 512) bytes) ∷ []
sectors_in-more n bytes = let more : n + 1 ≡ suc n = omega arith in rw more (last n bytes)
  where
    last : (n : ℕ) (bytes : List ℕ) → sectors_in (suc n) bytes ≡ sectors_in n bytes ++ take 512
        (drop (n * 512) bytes) ∷ []
    last zero bytes = refl
    last (suc n) bytes =
        let place : 512 + n * 512 ≡ suc n * 512 = omega arith in
        ap (λ rest. take 512 bytes ∷ rest)
        (last n (drop 512 bytes) ∙ ap (λ xs. sectors_in n (drop 512 bytes) ++ take 512 xs ∷ [])
        (drop-drop (n * 512) 512 bytes ∙ ap (λ i. drop i bytes) place))

-- a sector is the bytes at its place
pub sector_of_bytes : (n s : ℕ) (bytes : List ℕ) → s < n
    → slice_index_or (sectors_in n bytes) s [] ≡ take 512 (drop (512 * s) bytes)
sector_of_bytes zero s bytes below = absurd (omega arith)
sector_of_bytes (suc n) zero bytes below = refl
sector_of_bytes (suc n) (suc s) bytes below =
    let place : 512 + 512 * s ≡ 512 * suc s = omega arith in
    sector_of_bytes n s (drop 512 bytes) (omega arith)
    ∙ ap (λ xs. take 512 xs) (drop-drop (512 * s) 512 bytes ∙ ap (λ i. drop i bytes) place)

-- every sector is whole but the first
behind_first : (sector : List ℕ) (list : List (List ℕ)) → All (λ sector. length sector ≡ 512) (sector ∷ list)
    → All (λ sector. length sector ≡ 512) list
behind_first sector list whole = λ k d below. whole (suc k) d (omega arith)

-- the bytes of so many whole sectors
pub length-sectors : (list : List (List ℕ)) → All (λ sector. length sector ≡ 512) list
    → length (concat list) ≡ 512 * length list
length-sectors [] whole = refl
length-sectors (sector ∷ list) whole =
    let first : length sector ≡ 512 = whole 0 [] (omega arith) in
    let rest = length-sectors list (behind_first sector list whole) in
    omega (arith, length-append sector (concat list))

-- the sectors of joined whole sectors are these
pub sectors_in-concat : (list : List (List ℕ)) → All (λ sector. length sector ≡ 512) list
    → sectors_in (length list) (concat list) ≡ list
sectors_in-concat [] whole = refl
sectors_in-concat (sector ∷ list) whole =
    let first : length sector ≡ 512 = whole 0 [] (omega arith) in
    rw (take_at sector (concat list) 512 first, drop_at sector (concat list) 512 first)
    (ap (λ rest. sector ∷ rest) (sectors_in-concat list (behind_first sector list whole)))
