-- What the buffers hold, tag by tag.
use Rattle.std.specs.Prelude.{ℕ, zero, suc, ◌≡◌, ◌+◌, ◌*◌, List, [], ◌++◌, length, take, slice_get, Option, Some, None}
use Rattle.mon_pool.specs.Region.{Held, Region, leased_bytes}
use Rattle.aoe_client.specs.declared.client.Heard.{Heard}
use Rattle.aoe_client.specs.declared.client.Heard.TheVariants.{Took, Ignored}
use Rattle.aoe_client.specs.declared.tags.TagState.TheVariants.{Answered}
use Rattle.aoe_client.specs.declared.tags.TheConstants.{PART_BYTES}
use Rattle.aoe_client.specs.Fetching.{Fetching, first_tag, part}
use Rattle.aoe_client.specs.Asking.{Asking}

-- a slot's buffer holds of each answered tag what a source gives for it
abbrev pub Holds : (ℕ → List ℕ) → Option Fetching → Region → Type 0
Holds source None pool = Unit {0}
Holds source (Some f) pool =
    (i : ℕ) → slice_get f.tags i ≡ Some Answered
    → part i (leased_bytes f.lease pool) ≡ source (first_tag f + i)

-- both slots' buffers hold it
abbrev pub BothHold : (ℕ → List ℕ) → Asking → Region → Type 0
BothHold source c pool = Holds source c.demand pool × Holds source c.background pool

-- a slot goes on to ask for the same tags, none of which is answered that wasn't
abbrev pub AsksOn : Option Fetching → Option Fetching → Type 0
AsksOn None new = new ≡ None
AsksOn (Some f) None = ⊥
AsksOn (Some f) (Some g) = (first_tag g ≡ first_tag f) × (length g.tags ≡ length f.tags)
    × ((i : ℕ) → slice_get g.tags i ≡ Some Answered → slice_get f.tags i ≡ Some Answered)

-- so do both slots
abbrev pub BothAskOn : Asking → Asking → Type 0
BothAskOn old new = AsksOn old.demand new.demand × AsksOn old.background new.background

-- a source gives these two sectors for the tag for which a frame was taken
abbrev pub SourceGives : (ℕ → List ℕ) → List ℕ → Heard → Type 0
SourceGives source sectors Ignored = Unit {0}
SourceGives source sectors (Took tag) = source tag ≡ sectors

-- what a source gives for so many tags from this one on
abbrev pub given_from : (ℕ → List ℕ) → ℕ → ℕ → List ℕ
given_from source tag zero = []
given_from source tag (suc n) = given_from source tag n ++ source (tag + n)

-- a buffer that is handed over: of a block with so many tags it holds what the source gives for each of them
abbrev pub IsFetched : (ℕ → List ℕ) → ℕ → Region → ℕ × Held → Type 0
IsFetched source count pool fetched =
    take (count * PART_BYTES) (leased_bytes fetched.1 pool)
    ≡ given_from source (fetched.0 * count) count
