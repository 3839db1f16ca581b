-- Buffers of a block that are free or out, and the leases of those that are out.
use Rattle.std.proofs.Common.{slice_set, suc, zero, ◌≡◌, ◌≢◌, ℕ, ◌+◌, ◌*◌, ◌<◌, ◌≤◌, Bool, true, false, not, List, [], ◌∷◌, length, get_or, slice_get, count_by, Option, Some, None, arith, cond, refl, sym, ap, ◌∙◌}
use Rattle.std.specs.Prelude.{IsNone, ◌↔◌}
use Rattle.std.specs.List.{position, position_from}
use Rattle.std.proofs.lemmas.Bool.{true≢false}
use Rattle.std.proofs.lemmas.Iterator.Adapters.{position_from-zero}
use Rattle.std.proofs.lemmas.List.Quantifiers.{position-Some}
use Rattle.std.proofs.lemmas.List.Sums.{sum_by-cons, sum_by-take-le, count_by_more_yes}
use Rattle.std.proofs.lemmas.Option.{slice_get_within, get_or_from_slice_get}
use Rattle.std.proofs.Math.Nat.{mul-le-mul_right}
use Rattle.mon_pool.specs.Region.{Held, Region, IsOf, AreOf, given, with_bytes}

-- a leased buffer lies within the block
pub buffer_within : (buffer room : ℕ) (free : List Bool) (block : List ℕ) → slice_get free buffer ≡ Some false
    → length block ≡ length free * room → buffer * room + room ≤ length block
buffer_within buffer room free block out whole =
    let within : buffer < length free = slice_get_within free buffer false out in
    omega (arith, whole, mul-le-mul_right room within)

free_or_out : (x : Bool) → cond x 1 0 + cond (not x) 1 0 ≡ 1
free_or_out true = refl
free_or_out false = refl

-- each buffer is free or out
pub free_and_out : (free : List Bool) → count_by (λ x. x) free + count_by not free ≡ length free
free_and_out [] = refl
free_and_out (x ∷ free) = omega (
  arith,
  sum_by-cons (λ y. cond y 1 0) x free,
  sum_by-cons (λ y. cond (not y) 1 0) x free,
  free_or_out x,
  free_and_out free,
)

none_from : (i : ℕ) (free : List Bool) → position_from (λ x. x) i free ≡ None → count_by (λ x. x) free ≡ 0
none_from i [] none = refl
none_from i (true ∷ free) none = cc
none_from i (false ∷ free) none = omega (arith, sum_by-cons (λ y. cond y 1 0) false free, none_from (i + 1) free none)

-- without a first free buffer none is free
none_free : (free : List Bool) → position (λ x. x) free ≡ None → count_by (λ x. x) free ≡ 0
none_free free none = none_from 0 free (sym (position_from-zero (λ x. x) free) ∙ none)

-- with a first free buffer some buffer is free
some_free : (free : List Bool) (buffer : ℕ) → position (λ x. x) free ≡ Some buffer → count_by (λ x. x) free ≢ 0
some_free free buffer first no_buffer =
    let at = position-Some (λ x. x) free buffer false first in
    let more = count_by_more_yes (λ x. x) free buffer false at.0 at.1 in
    let within = sum_by-take-le (λ y. cond y 1 0) free (buffer + 1) in
    omega (arith, more, within)

-- there is a first free buffer exactly where one is free
pub none_where : (free : List Bool) (first : Option ℕ) → position (λ x. x) free ≡ first
    → IsNone first ↔ (count_by (λ x. x) free ≡ 0)
none_where free None is = (λ none. none_free free is, λ _. refl)
none_where free (Some buffer) is =
    (λ none. absurd (true≢false none), λ no_buffer. absurd (some_free free buffer is no_buffer))

-- the first free buffer isn't one that is out
pub new_apart : (free : List Bool) (buffer other : ℕ) → position (λ x. x) free ≡ Some buffer
    → slice_get free other ≡ Some false → other ≢ buffer
new_apart free buffer other first out same =
    let at = position-Some (λ x. x) free buffer false first in
    let not_free : get_or free other false ≡ false = get_or_from_slice_get free other false false out in
    true≢false (sym at.1 ∙ ap (λ n. get_or free n false) (sym same) ∙ not_free)

-- a buffer that is out once another was freed was out before, and is another
out_before : (free : List Bool) (buffer other : ℕ) → slice_get (slice_set free buffer true) other ≡ Some false
    → (slice_get free other ≡ Some false) × (other ≢ buffer)
out_before [] buffer other out = cc
out_before (x ∷ free) zero zero out = cc
out_before (x ∷ free) zero (suc other) out = (out, λ same. cc)
out_before (x ∷ free) (suc buffer) zero out = (out, λ same. cc)
out_before (x ∷ free) (suc buffer) (suc other) out =
    let before = out_before free buffer other out in
    (before.0, λ same. before.1 (omega arith))

-- a lease that is of the pool once another was given back was of it before, and is of another buffer
pub of_before : (pool : Region) (lease other : Held) → IsOf other (given lease pool)
    → IsOf other pool × (other.buffer ≢ lease.buffer)
of_before pool lease other of =
    let before = out_before pool.free lease.buffer other.buffer of.out in
    (record { base = of.base; out = before.0 }, before.1)

-- what is written through a lease leaves every lease of the pool
pub are_of_written : (leases : List Held) (pool : Region) (lease : Held) (bytes : List ℕ) → AreOf leases pool
    → AreOf leases (with_bytes lease pool bytes)
are_of_written [] pool lease bytes are = tt
are_of_written (one ∷ leases) pool lease bytes are =
    (record { base = are.0.base; out = are.0.out }, are_of_written leases (given one pool) lease bytes are.1)
