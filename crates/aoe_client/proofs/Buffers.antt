-- What the buffers hold while frames are heard.
use Rattle.std.proofs.Common.{◌≡◌, ◌≢◌, ℕ, zero, suc, ◌+◌, ◌-◌, ◌*◌, ◌<◌, ◌≤◌, Bool, true, false, List, [], ◌∷◌, ◌++◌, length, slice_get, slice_set, Option, Some, None, refl, sym, ap, ◌∙◌, inl, inr, arith, cond}
use Rattle.std.specs.Prelude.{nat_lt, option_map}
use Rattle.std.proofs.Math.ListN.{length-set}
use Rattle.std.proofs.Math.Nat.{mul-le-mul_right}
use Rattle.std.proofs.lemmas.Bool.{cases_eq, cases_lt, cond_below, cond_above, true≢false}
use Rattle.std.proofs.lemmas.Option.{slice_get_within}
use Rattle.ata_taskfile.specs.declared.registers.TheConstants.{SECTOR_BYTES}
use Rattle.mon_pool.specs.Region.{AreOf, HasWholeBuffers, Held, IsOf, Region, given, leased_bytes}
use Rattle.mon_pool.proofs.Leases.{of_before}
use Rattle.mon_pool.proofs.Parts.{length_bytes, length_written, part_written, part_kept, own_bytes, others_bytes, whole_written}
use Rattle.aoe_client.specs.declared.tags.TagState.{TagState}
use Rattle.aoe_client.specs.declared.tags.TagState.TheVariants.{Answered}
use Rattle.aoe_client.specs.declared.tags.TheConstants.{PART_BYTES}
use Rattle.aoe_client.specs.Fetching.{Fetching, first_tag, is_open, part, state_of, tag_answered, with_part, with_tag, with_tag_sectors}
use Rattle.aoe_client.specs.Asking.{Asking, HasRoom, HasTags, heard, buffers_heard, lease_in, leases_of, slot_filled}
use Rattle.aoe_client.specs.declared.client.Heard.TheVariants.{Took}
use Rattle.aoe_client.specs.Buffers.{BothHold, Holds}

get_other : (tags : List TagState) (k i : ℕ) (x : TagState) → i ≢ k
    → slice_get (slice_set tags k x) i ≡ slice_get tags i
get_other [] k i x apart = refl
get_other (y ∷ tags) zero zero x apart = absurd (apart refl)
get_other (y ∷ tags) zero (suc i) x apart = refl
get_other (y ∷ tags) (suc k) zero x apart = refl
get_other (y ∷ tags) (suc k) (suc i) x apart = get_other tags k i x (λ same. apart (ap suc same))

there : (tags : List TagState) (k : ℕ) (o : Option TagState) → slice_get tags k ≡ o → is_open o ≡ true → k < length tags
there tags k None is yet = absurd (true≢false (sym yet))
there tags k (Some x) is yet = slice_get_within tags k x is

-- an open tag is one of the block's
open_within : (tag first : ℕ) (tags : List TagState)
    → is_open (cond (nat_lt tag first) None (slice_get tags (tag - first))) ≡ true
    → (first ≤ tag) × (tag - first < length tags)
open_within tag first tags yet = elim (cases_lt tag first) [
  | inl below ↦
      absurd (true≢false (sym yet ∙ ap is_open (sym (cond_below tag first None (slice_get tags (tag - first)) below))))
  | inr above ↦
      let o = slice_get tags (tag - first) in
      (above, there tags (tag - first) o refl (ap is_open (cond_above tag first None o o above refl) ∙ yet))
]

-- the two sectors of a tag that is open go into a slot's buffer
module _ (source : ℕ → List ℕ) (tag : ℕ) (sectors : List ℕ) (long : length sectors ≡ PART_BYTES)
    (gives : source tag ≡ sectors)
    (f : Fetching) (pool : Region) (whole : HasWholeBuffers pool) (of : IsOf f.lease pool)
    (room : length f.tags * PART_BYTES ≤ pool.room)
    (yet : is_open (state_of tag f) ≡ true) where
  within : (first_tag f ≤ tag) × (tag - first_tag f < length f.tags)
  within = open_within tag (first_tag f) f.tags yet

  fits : (k : ℕ) → k < length f.tags → k * PART_BYTES + PART_BYTES ≤ length (leased_bytes f.lease pool)
  fits k below = omega (arith, room, length_bytes pool f.lease whole of, mul-le-mul_right PART_BYTES below)

  full : length (with_part (tag - first_tag f) sectors (leased_bytes f.lease pool)) ≡ pool.room
  full =
      length_written PART_BYTES (tag - first_tag f) sectors (leased_bytes f.lease pool) long
      (fits (tag - first_tag f) within.1)
      ∙ length_bytes pool f.lease whole of

  shown : leased_bytes f.lease (with_tag_sectors tag sectors f pool) ≡ with_part (tag - first_tag f) sectors
      (leased_bytes f.lease pool)
  shown = own_bytes pool f.lease (with_part (tag - first_tag f) sectors (leased_bytes f.lease pool)) whole of full

  pub whole_after : HasWholeBuffers (with_tag_sectors tag sectors f pool)
  whole_after =
      whole_written pool f.lease (with_part (tag - first_tag f) sectors (leased_bytes f.lease pool)) whole of full

  -- the buffer holds the tag's two sectors, and what it held
  pub own_holds : Holds source (Some f) pool → Holds source (Some (with_tag Answered tag f))
      (with_tag_sectors tag sectors f pool)
  own_holds holds i is =
      let k = tag - first_tag f in
      let b = leased_bytes f.lease pool in
      let same : first_tag (with_tag Answered tag f) ≡ first_tag f = ap (λ n. f.block * n)
      (length-set f.tags k Answered) in
      ap (part i) shown ∙ elim (cases_eq i k) [
        | inl at ↦
            let sum : tag ≡ first_tag (with_tag Answered tag f) + i = omega (arith, same, within.0, at) in
            ap (λ j. part j (with_part k sectors b)) at
            ∙ part_written PART_BYTES k sectors b long (fits k within.1)
            ∙ sym gives
            ∙ ap source sum
        | inr apart ↦
            part_kept PART_BYTES k sectors b long (fits k within.1) i apart
            ∙ holds i (sym (get_other f.tags k i Answered apart) ∙ is)
            ∙ ap (λ n. source (n + i)) (sym same)
      ]

  -- what another lease shows is as it was
  pub other_bytes : (lease : Held) → lease.buffer ≢ f.lease.buffer
      → leased_bytes lease (with_tag_sectors tag sectors f pool) ≡ leased_bytes lease pool
  other_bytes lease apart =
      others_bytes pool f.lease (with_part (tag - first_tag f) sectors (leased_bytes f.lease pool)) whole of full
      lease apart

  -- the buffer of another slot holds what it held
  pub other_holds : (g : Fetching) → g.lease.buffer ≢ f.lease.buffer → Holds source (Some g) pool
      → Holds source (Some g) (with_tag_sectors tag sectors f pool)
  other_holds g apart holds i is =
      ap (part i) (other_bytes g.lease apart) ∙ holds i is

-- a slot's lease is of the pool, whose slots have room
abbrev Ready : Option Fetching → Region → Type 0
Ready None pool = Unit {0}
Ready (Some f) pool = IsOf f.lease pool × (length f.tags * PART_BYTES ≤ pool.room)

abbrev Apart : Option Fetching → Option Fetching → Type 0
Apart None t = Unit {0}
Apart (Some f) None = Unit {0}
Apart (Some f) (Some g) = g.lease.buffer ≢ f.lease.buffer

apart_back : (s t : Option Fetching) → Apart s t → Apart t s
apart_back None None apart = tt
apart_back None (Some g) apart = tt
apart_back (Some f) None apart = tt
apart_back (Some f) (Some g) apart = λ same. apart (sym same)

-- a lease is of another buffer than a slot's
abbrev IsApart : Held → Option Fetching → Type 0
IsApart lease None = Unit {0}
IsApart lease (Some f) = lease.buffer ≢ f.lease.buffer

apart_both : (s t : Option Fetching) (pool : Region) (lease : Held) → AreOf (lease ∷ lease_in s ++ lease_in t) pool
    → IsApart lease s × IsApart lease t
apart_both None None pool lease are = (tt, tt)
apart_both None (Some g) pool lease are =
    let before = of_before pool lease g.lease are.1.0 in
    (tt, λ same. before.1 (sym same))
apart_both (Some f) None pool lease are =
    let before = of_before pool lease f.lease are.1.0 in
    (λ same. before.1 (sym same), tt)
apart_both (Some f) (Some g) pool lease are =
    let before = of_before pool lease f.lease are.1.0 in
    let between = of_before (given lease pool) f.lease g.lease are.1.1.0 in
    let second = of_before pool lease g.lease between.0 in
    (λ same. before.1 (sym same), λ same. second.1 (sym same))

ready_both : (s t : Option Fetching) (pool : Region) → AreOf (lease_in s ++ lease_in t) pool → HasRoom pool.room s
    → HasRoom pool.room t
    → Ready s pool × Ready t pool × Apart s t
ready_both None None pool are room_s room_t = (tt, tt, tt)
ready_both None (Some g) pool are room_s room_t = (tt, (are.0, room_t), tt)
ready_both (Some f) None pool are room_s room_t = ((are.0, room_s), tt, tt)
ready_both (Some f) (Some g) pool are room_s room_t =
    let before = of_before pool f.lease g.lease are.1.0 in
    ((are.0, room_s), (before.0, room_t), before.1)

module _ (source : ℕ → List ℕ) (tag : ℕ) (sectors : List ℕ) (long : length sectors ≡ PART_BYTES)
    (gives : source tag ≡ sectors) where
  -- a block that is asked for, whose tag is open (true) or not
  module _ (f : Fetching) (pool : Region) (whole : HasWholeBuffers pool) (ready : Ready (Some f) pool) where
    filled_holds_where : (o : Bool) → is_open (state_of tag f) ≡ o → Holds source (Some f) pool
        → Holds source (Some (cond o (with_tag Answered tag f) f)) (cond o (with_tag_sectors tag sectors f pool) pool)
    filled_holds_where false yet holds = holds
    filled_holds_where true yet holds = own_holds source tag sectors long gives f pool whole ready.0 ready.1 yet holds

    filled_other_where : (o : Bool) (g : Fetching) → is_open (state_of tag f) ≡ o → g.lease.buffer ≢ f.lease.buffer
        → Holds source (Some g) pool → Holds source (Some g) (cond o (with_tag_sectors tag sectors f pool) pool)
    filled_other_where false g yet apart holds = holds
    filled_other_where true g yet apart holds =
        other_holds source tag sectors long gives f pool whole ready.0 ready.1 yet g apart holds

    filled_bytes_where : (o : Bool) (lease : Held) → is_open (state_of tag f) ≡ o → lease.buffer ≢ f.lease.buffer
        → leased_bytes lease (cond o (with_tag_sectors tag sectors f pool) pool) ≡ leased_bytes lease pool
    filled_bytes_where false lease yet apart = refl
    filled_bytes_where true lease yet apart =
        other_bytes source tag sectors long gives f pool whole ready.0 ready.1 yet lease apart

    filled_whole_where : (o : Bool) → is_open (state_of tag f) ≡ o
        → HasWholeBuffers (cond o (with_tag_sectors tag sectors f pool) pool)
    filled_whole_where false yet = whole
    filled_whole_where true yet = whole_after source tag sectors long gives f pool whole ready.0 ready.1 yet

  ready_where : (o : Bool) (f g : Fetching) (pool : Region) → Ready (Some g) pool
      → Ready (Some g) (cond o (with_tag_sectors tag sectors f pool) pool)
  ready_where false f g pool ready = ready
  ready_where true f g pool ready = (record { base = ready.0.base; out = ready.0.out }, ready.1)

  apart_where : (o : Bool) (f g : Fetching) → Apart (Some f) (Some g)
      → Apart (Some f) (Some (cond o (with_tag Answered tag g) g))
  apart_where false f g apart = apart
  apart_where true f g apart = apart

  filled_holds : (s : Option Fetching) (pool : Region) → HasWholeBuffers pool → Ready s pool → Holds source s pool
      → Holds source (option_map (tag_answered tag) s) (slot_filled tag sectors s pool)
  filled_holds None pool whole ready holds = tt
  filled_holds (Some f) pool whole ready holds =
      filled_holds_where f pool whole ready (is_open (state_of tag f)) refl holds

  filled_other : (s t : Option Fetching) (pool : Region) → HasWholeBuffers pool → Ready s pool → Apart s t
      → Holds source t pool → Holds source t (slot_filled tag sectors s pool)
  filled_other None t pool whole ready apart holds = holds
  filled_other (Some f) None pool whole ready apart holds = tt
  filled_other (Some f) (Some g) pool whole ready apart holds =
      filled_other_where f pool whole ready (is_open (state_of tag f)) g refl apart holds

  filled_whole : (s : Option Fetching) (pool : Region) → HasWholeBuffers pool → Ready s pool
      → HasWholeBuffers (slot_filled tag sectors s pool)
  filled_whole None pool whole ready = whole
  filled_whole (Some f) pool whole ready = filled_whole_where f pool whole ready (is_open (state_of tag f)) refl

  filled_ready : (s t : Option Fetching) (pool : Region) → Ready t pool → Ready t (slot_filled tag sectors s pool)
  filled_ready None t pool ready = ready
  filled_ready (Some f) None pool ready = tt
  filled_ready (Some f) (Some g) pool ready = ready_where (is_open (state_of tag f)) f g pool ready

  apart_answered : (s t : Option Fetching) → Apart s t → Apart s (option_map (tag_answered tag) t)
  apart_answered None t apart = tt
  apart_answered (Some f) None apart = tt
  apart_answered (Some f) (Some g) apart = apart_where (is_open (state_of tag g)) f g apart

  -- both buffers hold the tag's two sectors, where they awaited them, and what they held
  pub both_hold : (c : Asking) (pool : Region) → HasWholeBuffers pool → AreOf (leases_of c) pool
      → HasRoom pool.room c.demand → HasRoom pool.room c.background → BothHold source c pool
      → BothHold source (heard (Took tag) c) (buffers_heard (Took tag) sectors c pool)
  both_hold c pool whole are room_d room_b holds =
      let d = c.demand in let b = c.background in
      let ready = ready_both d b pool are room_d room_b in
      let first = slot_filled tag sectors d pool in
      let whole_first = filled_whole d pool whole ready.0 in
      let ready_b = filled_ready d b pool ready.1 in (
        filled_other b (option_map (tag_answered tag) d) first whole_first ready_b
            (apart_answered b d (apart_back d b ready.2))
            (filled_holds d pool whole ready.0 holds.0),
        filled_holds b first whole_first ready_b (filled_other d b pool whole ready.0 ready.2 holds.1),
      )

  filled_bytes : (s : Option Fetching) (pool : Region) → HasWholeBuffers pool → Ready s pool
      → (lease : Held) → IsApart lease s → leased_bytes lease (slot_filled tag sectors s pool) ≡ leased_bytes lease pool
  filled_bytes None pool whole ready lease apart = refl
  filled_bytes (Some f) pool whole ready lease apart =
      filled_bytes_where f pool whole ready (is_open (state_of tag f)) lease refl apart

  -- a lease of the pool that isn't the client's shows what it did
  pub others_stay : (c : Asking) (pool : Region) → HasWholeBuffers pool → AreOf (leases_of c) pool
      → HasRoom pool.room c.demand → HasRoom pool.room c.background
      → (lease : Held) → AreOf (lease ∷ leases_of c) pool
      → leased_bytes lease (buffers_heard (Took tag) sectors c pool) ≡ leased_bytes lease pool
  others_stay c pool whole are room_d room_b lease all =
      let d = c.demand in let b = c.background in
      let ready = ready_both d b pool are room_d room_b in
      let apart = apart_both d b pool lease all in
      filled_bytes b (slot_filled tag sectors d pool) (filled_whole d pool whole ready.0)
      (filled_ready d b pool ready.1) lease apart.1
      ∙ filled_bytes d pool whole ready.0 lease apart.0

-- a pool that serves a client has room for what its slots ask for
pub has_room : (block room : ℕ) (s : Option Fetching) → HasTags block s → SECTOR_BYTES * block ≤ room → HasRoom room s
has_room block room None count fits = tt
has_room block room (Some f) count fits = omega (arith, count)
