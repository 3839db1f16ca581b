-- Leases that are held at once: in which order they are named, and how many buffers are out.
use Rattle.std.proofs.Common.{◌≡◌, ◌≢◌, ℕ, zero, suc, ◌+◌, ◌<◌, Bool, true, false, not, List, [], ◌∷◌, ◌++◌, length, get_or, slice_get, slice_set, Option, Some, None, arith, cond, refl, sym, ap, subst}
use Rattle.std.specs.Prelude.{IsSome}
use Rattle.std.proofs.lemmas.List.Quantifiers.{position-Some}
use Rattle.std.proofs.lemmas.List.Sums.{sum_by-set}
use Rattle.std.proofs.lemmas.Option.{slice_get_within, get_or_from_slice_get}
use Rattle.mon_pool.specs.Region.{Held, Region, AreOf, IsOf, all_given, buffers_in, first_free, given, lease_of, leased, out_of}
use Rattle.mon_pool.proofs.Leases.{free_and_out, none_where, of_before}

set_twice : (free : List Bool) (i j : ℕ)
    → slice_set (slice_set free i true) j true ≡ slice_set (slice_set free j true) i true
set_twice [] i j = refl
set_twice (x ∷ free) zero zero = refl
set_twice (x ∷ free) zero (suc j) = refl
set_twice (x ∷ free) (suc i) zero = refl
set_twice (x ∷ free) (suc i) (suc j) = ap (λ rest. x ∷ rest) (set_twice free i j)

set_back : (free : List Bool) (i : ℕ) → get_or free i false ≡ true → slice_set (slice_set free i false) i true ≡ free
set_back [] i is = refl
set_back (x ∷ free) zero is = ap (λ y. y ∷ free) (sym is)
set_back (x ∷ free) (suc i) is = ap (λ rest. x ∷ rest) (set_back free i is)

other_out : (free : List Bool) (i j : ℕ) → j ≢ i → slice_get free j ≡ Some false
    → slice_get (slice_set free i true) j ≡ Some false
other_out [] i j apart out = out
other_out (x ∷ free) zero zero apart out = absurd (apart refl)
other_out (x ∷ free) zero (suc j) apart out = out
other_out (x ∷ free) (suc i) zero apart out = out
other_out (x ∷ free) (suc i) (suc j) apart out = other_out free i j (λ same. apart (ap suc same)) out

set_out : (free : List Bool) (i : ℕ) → i < length free → slice_get (slice_set free i false) i ≡ Some false
set_out [] i within = absurd (omega arith)
set_out (x ∷ free) zero within = refl
set_out (x ∷ free) (suc i) within = set_out free i (omega arith)

-- two leases may be given back in either order
given_twice : (pool : Region) (one other : Held) → given one (given other pool) ≡ given other (given one pool)
given_twice pool one other = ap (λ free. record pool { free = free }) (set_twice pool.free other.buffer one.buffer)

still_of : (pool : Region) (lease other : Held) → other.buffer ≢ lease.buffer → IsOf other pool
    → IsOf other (given lease pool)
still_of pool lease other apart of =
    record { base = of.base; out = other_out pool.free lease.buffer other.buffer apart of.out }

-- a lease that stands anywhere among those held may be named first
pub to_front : (xs ys : List Held) (lease : Held) (pool : Region) → AreOf (xs ++ lease ∷ ys) pool
    → AreOf (lease ∷ xs ++ ys) pool
to_front [] ys lease pool are = are
to_front (x ∷ xs) ys lease pool are =
    let front = to_front xs ys lease (given x pool) are.1 in
    let before = of_before pool x lease front.0 in (
      before.0,
      (
        still_of pool lease x (λ same. before.1 (sym same)) are.0,
        subst (AreOf (xs ++ ys)) (given_twice pool lease x) front.1,
      ),
    )

-- the lease that is named first may be named anywhere among those held
pub from_front : (xs ys : List Held) (lease : Held) (pool : Region) → AreOf (lease ∷ xs ++ ys) pool
    → AreOf (xs ++ lease ∷ ys) pool
from_front [] ys lease pool are = are
from_front (x ∷ xs) ys lease pool are =
    let before = of_before pool lease x are.1.0 in (
      before.0,
      from_front xs ys lease (given x pool) (
        still_of pool x lease (λ same. before.1 (sym same)) are.0,
        subst (AreOf (xs ++ ys)) (given_twice pool x lease) are.1.1,
      ),
    )

-- a buffer that is out counts 1 of those that are out, and one that is free 0
abbrev counted : Bool → ℕ
counted free = cond (not free) 1 0

module _ (pool : Region) (buffer : ℕ) (first : first_free pool ≡ Some buffer) where
  at : (buffer < length pool.free) × (get_or pool.free buffer false ≡ true)
  at = let there = position-Some (λ x. x) pool.free buffer false first in (there.0, there.1)

  -- a lease that is given back at once leaves the pool as it was
  pub taken_and_given : given (lease_of pool buffer) (leased (Some buffer) pool) ≡ pool
  taken_and_given = ap (λ free. record pool { free = free }) (set_back pool.free buffer at.1)

  -- the lease of the first free buffer is of the pool once that is leased
  is_of : IsOf (lease_of pool buffer) (leased (Some buffer) pool)
  is_of = record { base = refl; out = set_out pool.free buffer at.0 }

  -- once a buffer is leased one more is out
  pub one_more_out : out_of (leased (Some buffer) pool) ≡ out_of pool + 1
  one_more_out = omega (
    arith,
    sum_by-set counted pool.free buffer false false at.0,
    ap counted at.1,
  )

-- once a lease is given back one fewer is out
pub one_fewer_out : (pool : Region) (lease : Held) → IsOf lease pool → out_of (given lease pool) + 1 ≡ out_of pool
one_fewer_out pool lease of =
    let is : get_or pool.free lease.buffer false ≡ false =
    get_or_from_slice_get pool.free lease.buffer false false of.out in
    omega (
      arith,
      sum_by-set counted pool.free lease.buffer true false (slice_get_within pool.free lease.buffer false of.out),
      ap counted is,
    )

-- the leases that are held are as many fewer once they are given back
pub held_are_out : (leases : List Held) (pool : Region) → AreOf leases pool
    → out_of (all_given leases pool) + length leases ≡ out_of pool
held_are_out [] pool are = omega arith
held_are_out (lease ∷ leases) pool are =
    omega (arith, one_fewer_out pool lease are.0, held_are_out leases (given lease pool) are.1)

some_where : (pool : Region) (first : Option ℕ) → first_free pool ≡ first → out_of pool < buffers_in pool → IsSome first
some_where pool (Some buffer) is few = refl
some_where pool None is few =
    absurd (omega (arith, (none_where pool.free None is).0 refl, free_and_out pool.free))

-- while not all buffers are out one is free
pub some_free : (pool : Region) → out_of pool < buffers_in pool → IsSome (first_free pool)
some_free pool few = some_where pool (first_free pool) refl few

-- a new lease is of the pool together with those held, wherever it is named among them
pub is_added : (xs ys : List Held) (pool : Region) (buffer : ℕ) → first_free pool ≡ Some buffer → AreOf (xs ++ ys) pool
    → AreOf (xs ++ lease_of pool buffer ∷ ys) (leased (Some buffer) pool)
is_added xs ys pool buffer first are =
    from_front xs ys (lease_of pool buffer) (leased (Some buffer) pool) (
      is_of pool buffer first,
      subst (AreOf (xs ++ ys)) (sym (taken_and_given pool buffer first)) are,
    )
