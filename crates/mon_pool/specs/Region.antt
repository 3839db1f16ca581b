-- What a pool holds, what a lease names, and what each call does.
use Rattle.std.specs.Prelude.{ℕ, ◌≡◌, ◌*◌, Bool, true, false, not, List, [], ◌∷◌, ◌++◌, length, take, drop, slice_set, replicate, slice_get, count_by, position, Option, Some, None}
use Rattle.std.specs.Ptr.{Ptr}

-- a lease: where the block of its pool lies, and the number of its buffer (own)
pub record Held : Type 0 where
  pub pool : Ptr
  pub buffer : ℕ

-- a pool: where its block lies, how many bytes a buffer has, which buffers are free, and the bytes of the block, buffer
-- after buffer (own)
pub record Region : Type 0 where
  pub base : Ptr
  pub room : ℕ
  pub free : List Bool
  pub block : List ℕ

-- a pool at its start, with its block at this base: each buffer is free, and each byte zero
abbrev pub all_free : Ptr → ℕ → ℕ → Region
all_free base buffers room = record {
  base = base;
  room = room;
  free = replicate buffers true;
  block = replicate (buffers * room) 0;
}

-- the block has the bytes of all buffers, and no more
abbrev pub HasWholeBuffers : Region → Type 0
HasWholeBuffers pool = length pool.block ≡ length pool.free * pool.room

-- how many buffers a pool has, free or out
abbrev pub buffers_in : Region → ℕ
buffers_in pool = length pool.free

-- how many buffers of a pool are free
abbrev pub free_of : Region → ℕ
free_of pool = count_by (λ free. free) pool.free

-- how many buffers of a pool are out: each is with the holder of its lease
abbrev pub out_of : Region → ℕ
out_of pool = count_by not pool.free

-- the number of the lowest free buffer
abbrev pub first_free : Region → Option ℕ
first_free pool = position (λ free. free) pool.free

-- the lease of a buffer of a pool
abbrev pub lease_of : Region → ℕ → Held
lease_of pool buffer = record { pool = pool.base; buffer = buffer }

-- a pool in which this buffer is free, or out, and all else is as it was
abbrev pub with_free : Bool → ℕ → Region → Region
with_free free buffer pool = record pool { free = slice_set pool.free buffer free }

-- a pool once this buffer, where there is one, is leased
abbrev pub leased : Option ℕ → Region → Region
leased None pool = pool
leased (Some buffer) pool = with_free false buffer pool

-- a pool once a lease is given back
abbrev pub given : Held → Region → Region
given lease pool = with_free true lease.buffer pool

-- a lease is of a pool: it says where the pool's block lies, and its buffer is out (own)
pub record IsOf (lease : Held) (pool : Region) : Type 0 where
  pub base : lease.pool ≡ pool.base
  pub out : slice_get pool.free lease.buffer ≡ Some false

-- leases that are held at once are of a pool: each is, once those before it are given back; so no two share a buffer
abbrev pub AreOf : List Held → Region → Type 0
AreOf [] pool = Unit {0}
AreOf (lease ∷ leases) pool = IsOf lease pool × AreOf leases (given lease pool)

-- a pool once all these leases are given back, in this order
abbrev pub all_given : List Held → Region → Region
all_given [] pool = pool
all_given (lease ∷ leases) pool = all_given leases (given lease pool)

-- the bytes of a lease's buffer
abbrev pub leased_bytes : Held → Region → List ℕ
leased_bytes lease pool = take pool.room (drop (lease.buffer * pool.room) pool.block)

-- a block in which these bytes stand from this place on, over as many; what would reach past its end is cut off
abbrev pub spliced : ℕ → List ℕ → List ℕ → List ℕ
spliced place bytes block =
    take (length block) (take place block ++ (bytes ++ drop (length bytes) (drop place block)))

-- a pool once these bytes, as many as a buffer has, are written through a lease
abbrev pub with_bytes : Held → Region → List ℕ → Region
with_bytes lease pool bytes =
    record pool { block = spliced (lease.buffer * pool.room) bytes pool.block }
