-- What one slot of the client asks for, and what each event does to it.
use Rattle.std.specs.Prelude.{ℕ, ◌+◌, ◌-◌, ◌*◌, ◌==◌, nat_lt, Bool, true, false, List, [], ◌∷◌, length, take, drop, map, replicate, slice_get, slice_set, Option, Some, None, if◌then◌else◌}
use Rattle.mon_pool.specs.Region.{Held, Region, leased_bytes, with_bytes, spliced}
use Rattle.aoe_client.specs.declared.tags.TagState.{TagState}
use Rattle.aoe_client.specs.declared.tags.TagState.TheVariants.{Due, Unanswered, Answered}
use Rattle.aoe_client.specs.declared.tags.TheConstants.{PART_BYTES, RESEND_AGE}

-- a block that is asked for: the lease of its buffer, its number, its age in ticks, and where each of its tags stands
-- (own)
pub record Fetching : Type 0 where
  pub lease : Held
  pub block : ℕ
  pub age : ℕ
  pub tags : List TagState

-- the first of a block's tags: a tag is the place of its first sector divided by 2 (own)
abbrev pub first_tag : Fetching → ℕ
first_tag f = f.block * length f.tags

-- a block that was just asked for: all its tags are due
abbrev pub asked_for : ℕ → ℕ → Held → Fetching
asked_for count block lease =
    record { lease = lease; block = block; age = 0; tags = replicate count Due }

-- whether a tag is due
abbrev pub is_due : TagState → Bool
is_due Due = true
is_due Unanswered = false
is_due Answered = false

-- whether a tag is answered
abbrev pub is_answered : TagState → Bool
is_answered Due = false
is_answered Unanswered = false
is_answered Answered = true

-- the tags that are due, in rising order, of a list of tags whose first is this one
abbrev pub due_from : ℕ → List TagState → List ℕ
due_from tag [] = []
due_from tag (Due ∷ tags) = tag ∷ due_from (tag + 1) tags
due_from tag (Unanswered ∷ tags) = due_from (tag + 1) tags
due_from tag (Answered ∷ tags) = due_from (tag + 1) tags

-- the due tags of a slot
abbrev pub due_of : Option Fetching → List ℕ
due_of None = []
due_of (Some f) = due_from (first_tag f) f.tags

-- a block of which this tag stands so, and all else is as it was
abbrev pub with_tag : TagState → ℕ → Fetching → Fetching
with_tag state tag f = record f { tags = slice_set f.tags (tag - first_tag f) state }

-- a block once the request for this tag, where there is one, was sent
abbrev pub tag_sent : Option ℕ → Fetching → Fetching
tag_sent None f = f
tag_sent (Some tag) f = with_tag Unanswered tag f

-- a tag that is unanswered is due again
abbrev pub due_again : TagState → TagState
due_again Due = Due
due_again Unanswered = Due
due_again Answered = Answered

-- a tick: at the fourth all unanswered tags are due again, and the age is 0 (own)
abbrev pub ticked : Fetching → Fetching
ticked f =
    if f.age + 1 == RESEND_AGE then record f { age = 0; tags = map due_again f.tags } else
    record f { age = f.age + 1 }

-- where a tag stands, where the block has it
abbrev pub state_of : ℕ → Fetching → Option TagState
state_of tag f = if nat_lt tag (first_tag f) then None else slice_get f.tags (tag - first_tag f)

-- whether a tag is unanswered or due
abbrev pub is_open : Option TagState → Bool
is_open None = false
is_open (Some Due) = true
is_open (Some Unanswered) = true
is_open (Some Answered) = false

-- the two sectors of a block's i-th tag, in the block's bytes
abbrev pub part : ℕ → List ℕ → List ℕ
part i bytes = take PART_BYTES (drop (i * PART_BYTES) bytes)

-- the bytes of a block with these two sectors at its i-th tag
abbrev pub with_part : ℕ → List ℕ → List ℕ → List ℕ
with_part i sectors bytes = spliced (i * PART_BYTES) sectors bytes

-- a pool once a tag's two sectors are in the buffer
abbrev pub with_tag_sectors : ℕ → List ℕ → Fetching → Region → Region
with_tag_sectors tag sectors f pool =
    with_bytes f.lease pool (with_part (tag - first_tag f) sectors (leased_bytes f.lease pool))

-- a block once this tag is answered, where it was unanswered or due
abbrev pub tag_answered : ℕ → Fetching → Fetching
tag_answered tag f = if is_open (state_of tag f) then with_tag Answered tag f else f

-- a pool once a tag's two sectors are in the buffer, where the tag was unanswered or due
abbrev pub tag_filled : ℕ → List ℕ → Fetching → Region → Region
tag_filled tag sectors f pool =
    if is_open (state_of tag f) then with_tag_sectors tag sectors f pool else pool
