-- What holds over an image that is told, or over some image where none is.
use Rattle.std.proofs.Common.{◌≡◌, ℕ, ◌+◌, ◌-◌, ◌*◌, ◌≤◌, List, ◌++◌, length, take, replicate, Option, Some, None, arith, refl, sym, ap, ◌∙◌, subst, length-append}
use Rattle.ata_taskfile.specs.declared.registers.TheConstants.{SECTOR_BYTES}
use Rattle.std.proofs.lemmas.List.{take_at, drop_at, length-replicate}
use Rattle.bm_host.specs.Outside.{IfTold, bytes_at}
use Rattle.image_server.specs.Serving.{OverImage}

-- what holds over every image
pub over_any : (sectors : ℕ) (told : Option (List ℕ)) (P : List ℕ → Type 0) → ((image : List ℕ) → P image)
    → OverImage sectors told P
over_any sectors None P all = (
  replicate (SECTOR_BYTES * sectors) 0,
  length-replicate (SECTOR_BYTES * sectors) 0,
  all
      (replicate (SECTOR_BYTES * sectors) 0),
)
over_any sectors (Some image) P all = all image

-- what follows over every image
pub over_map : (sectors : ℕ) (told : Option (List ℕ)) (P Q : List ℕ → Type 0) → ((image : List ℕ) → P image → Q image)
    → OverImage sectors told P → OverImage sectors told Q
over_map sectors None P Q follows over = (over.0, over.1, follows over.0 over.2)
over_map sectors (Some image) P Q follows over = follows image over

-- an image with these bytes at a place
image_with : ℕ → ℕ → List ℕ → List ℕ
image_with sectors place bytes =
    replicate place 0 ++ (bytes ++ replicate (SECTOR_BYTES * sectors - place - length bytes) 0)

length-image_with : (sectors place : ℕ) (bytes : List ℕ) → place + length bytes ≤ SECTOR_BYTES * sectors
    → length (image_with sectors place bytes) ≡ SECTOR_BYTES * sectors
unfolding image_with
length-image_with sectors place bytes inside = simp (length-append, length-replicate) (omega arith)

bytes_at-image_with : (sectors place : ℕ) (bytes : List ℕ) → bytes_at place (length bytes)
    (image_with sectors place bytes) ≡ bytes
unfolding image_with
bytes_at-image_with sectors place bytes =
    let rest = replicate (SECTOR_BYTES * sectors - place - length bytes) 0 in
    ap (take (length bytes)) (drop_at (replicate place 0) (bytes ++ rest) place (length-replicate place 0))
    ∙ take_at bytes rest (length bytes) refl

-- what holds of the bytes at a place holds over the image
pub over_bytes : (sectors place n : ℕ) (told : Option (List ℕ)) (bytes : List ℕ) (P : List ℕ → Type 0)
    → place + n ≤ SECTOR_BYTES * sectors → length bytes ≡ n
    → IfTold told (λ image. bytes ≡ bytes_at place n image) → P bytes
    → OverImage sectors told (λ image. P (bytes_at place n image))
over_bytes sectors place n None bytes P inside many read holds =
    let image = image_with sectors place bytes in
    let all : length image ≡ SECTOR_BYTES * sectors = length-image_with sectors place bytes (omega arith) in
    let same : bytes_at place n image ≡ bytes = subst (λ (k : ℕ). bytes_at place k image ≡ bytes) many
    (bytes_at-image_with sectors place bytes) in
    (image, all, subst P (sym same) holds)
over_bytes sectors place n (Some image) bytes P inside many read holds = subst P read holds
