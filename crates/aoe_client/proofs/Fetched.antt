-- What a buffer holds once it is handed over.
use Rattle.std.proofs.Common.{◌≡◌, ℕ, zero, suc, ◌+◌, ◌*◌, ◌<◌, Bool, true, false, List, [], ◌∷◌, ◌++◌, length, take, drop, slice_get, Option, Some, None, refl, sym, ap, ◌∙◌, arith, cond}
use Rattle.std.specs.Prelude.{IfSome}
use Rattle.std.specs.List.{list_all}
use Rattle.std.proofs.Math.Nat.{suc-mul}
use Rattle.std.proofs.lemmas.List.{take-append-drop, take-take, drop-drop, drop-take}
use Rattle.bm_host.specs.Outside.{bytes_at}
use Rattle.mon_pool.specs.Region.{Held, Region, leased_bytes}
use Rattle.aoe_client.specs.declared.tags.TagState.{TagState}
use Rattle.aoe_client.specs.declared.tags.TagState.TheVariants.{Due, Unanswered, Answered}
use Rattle.aoe_client.specs.declared.tags.TheConstants.{PART_BYTES}
use Rattle.aoe_client.specs.Fetching.{Fetching, is_answered, part}
use Rattle.aoe_client.specs.Asking.{HasTags, done_in, tags_in}
use Rattle.aoe_client.specs.Buffers.{Holds, IsFetched, given_from}

take_sum : (m n : ℕ) (bytes : List ℕ) → take (m + n) bytes ≡ take m bytes ++ take n (drop m bytes)
take_sum m n bytes =
    sym (take-append-drop m (take (m + n) bytes))
    ∙ (λ j. take-take m (m + n) bytes (omega arith) j ++ drop-take m n bytes j)

-- what was handed over, from the parts that are held
module _ (source : ℕ → List ℕ) (bytes : List ℕ) (tag : ℕ) where
  pub parts_given : (n : ℕ) → ((i : ℕ) → i < n → part i bytes ≡ source (tag + i))
      → take (n * PART_BYTES) bytes ≡ given_from source tag n
  parts_given zero each = refl
  parts_given (suc n) each =
      ap (λ m. take m bytes) (suc-mul n PART_BYTES)
      ∙ take_sum (n * PART_BYTES) PART_BYTES bytes
      ∙ (λ j. parts_given n (λ i below. each i (omega arith)) j ++ each n (omega arith) j)

all_get : (tags : List TagState) (i : ℕ) → list_all is_answered tags ≡ true → i < length tags
    → slice_get tags i ≡ Some Answered
all_get [] i all below = absurd (omega arith)
all_get (Due ∷ tags) i all below = cc
all_get (Unanswered ∷ tags) i all below = cc
all_get (Answered ∷ tags) zero all below = refl
all_get (Answered ∷ tags) (suc i) all below = all_get tags i all (omega arith)

fetched_where : (source : ℕ → List ℕ) (block : ℕ) (f : Fetching) (pool : Region) (all : Bool)
    → list_all is_answered f.tags ≡ all
    → HasTags block (Some f) → Holds source (Some f) pool
    → IfSome (cond all (Some (f.block, f.lease)) None) (IsFetched source (tags_in block) pool)
fetched_where source block f pool false is count holds = tt
fetched_where source block f pool true is count holds =
    parts_given source (leased_bytes f.lease pool) (f.block * tags_in block) (tags_in block) (λ i below.
    holds i (all_get f.tags i is (omega (arith, count))) ∙ ap (λ n. source (f.block * n + i)) count)

-- what is handed over holds what the source gives for the block's tags
pub fetched_given : (source : ℕ → List ℕ) (block : ℕ) (s : Option Fetching) (pool : Region) → HasTags block s
    → Holds source s pool
    → IfSome (done_in s) (IsFetched source (tags_in block) pool)
fetched_given source block None pool count holds = tt
fetched_given source block (Some f) pool count holds = fetched_where source block f pool
    (list_all is_answered f.tags) refl count holds

module _ (image : List ℕ) (tag : ℕ) where
  place_behind : (n : ℕ) → drop (PART_BYTES * n) (drop (PART_BYTES * tag) image) ≡ drop (PART_BYTES * (tag + n)) image
  place_behind n =
      let sum : PART_BYTES * tag + PART_BYTES * n ≡ PART_BYTES * (tag + n) = omega arith in
      drop-drop (PART_BYTES * n) (PART_BYTES * tag) image ∙ ap (λ k. drop k image) sum

  -- the two sectors of each of so many tags are the image's bytes from the first of them on
  given_image : (n : ℕ) → given_from (λ t. bytes_at (PART_BYTES * t) PART_BYTES image) tag n
      ≡ bytes_at (PART_BYTES * tag) (PART_BYTES * n) image
  given_image zero = refl
  given_image (suc n) =
      let more : PART_BYTES * suc n ≡ PART_BYTES * n + PART_BYTES = omega arith in
      (λ i. given_image n i ++ take PART_BYTES (sym (place_behind n) i))
      ∙ sym (take_sum (PART_BYTES * n) PART_BYTES (drop (PART_BYTES * tag) image))
      ∙ ap (λ k. take k (drop (PART_BYTES * tag) image)) (sym more)

-- a buffer that holds of each tag the image's two sectors holds the image's block
pub fetched_image : (image : List ℕ) (count : ℕ) (pool : Region) (fetched : ℕ × Held)
    → IsFetched (λ tag. bytes_at (PART_BYTES * tag) PART_BYTES image) count pool fetched
    → take (count * PART_BYTES) (leased_bytes fetched.1 pool)
    ≡ bytes_at (PART_BYTES * (fetched.0 * count)) (PART_BYTES * count) image
fetched_image image count pool fetched is = is ∙ given_image image (fetched.0 * count) count
