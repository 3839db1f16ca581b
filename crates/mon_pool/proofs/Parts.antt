-- Bytes that are written over a part of a block.
use Rattle.std.proofs.Common.{◌≡◌, ◌≢◌, ℕ, suc, ◌+◌, ◌-◌, ◌*◌, ◌≤◌, List, ◌++◌, length, take, drop, inl, inr, arith, refl, sym, ap, ◌∙◌, length-append, length-take, length-drop}
use Rattle.std.proofs.lemmas.Bool.{cases_lt}
use Rattle.std.proofs.lemmas.List.{take_all, take_at, drop_at, take-append-le, drop-append-le, take-take, drop-drop, drop-take}
use Rattle.std.proofs.Math.Nat.{mul-le-mul_right}
use Rattle.mon_pool.specs.Region.{Held, Region, HasWholeBuffers, IsOf, spliced, leased_bytes, with_bytes}
use Rattle.mon_pool.proofs.Leases.{buffer_within}

module _ (at : ℕ) (bytes block : List ℕ) (fits : at + length bytes ≤ length block) where
  -- bytes that fit are written whole, with nothing cut off
  written_is : spliced at bytes block ≡ take at block ++ (bytes ++ drop (length bytes) (drop at block))
  written_is =
      let rest = drop (length bytes) (drop at block) in
      take_all (length block) (take at block ++ (bytes ++ rest)) (omega (
        arith,
        length-append (take at block) (bytes ++ rest),
        length-append bytes rest,
        length-take at block,
        length-drop (length bytes) (drop at block),
        length-drop at block,
      ))

  -- from the place on stand the bytes and what was behind them
  written_from : drop at (spliced at bytes block) ≡ bytes ++ drop (length bytes) (drop at block)
  written_from =
      let rest = drop (length bytes) (drop at block) in
      ap (drop at) written_is ∙ drop_at (take at block) (bytes ++ rest) at (omega (arith, length-take at block))

  pub written_there : take (length bytes) (drop at (spliced at bytes block)) ≡ bytes
  written_there = ap (take (length bytes)) written_from ∙ take_at bytes (drop (length bytes) (drop at block))
      (length bytes) refl

  -- a part that ends before the written bytes is as it was
  pub written_below : (place n : ℕ) → place + n ≤ at → take n (drop place (spliced at bytes block)) ≡ take n
      (drop place block)
  written_below place n before =
      let more = bytes ++ drop (length bytes) (drop at block) in
      let start = take at block in
      let long : length start ≡ at = omega (arith, length-take at block) in
      let m = at - place in
      let sum : at ≡ place + m = omega arith in
      ap (λ l. take n (drop place l)) written_is
      ∙ ap (take n) (drop-append-le place start more (omega arith))
      ∙ take-append-le n (drop place start) more (omega (arith, length-drop place start))
      ∙ ap (λ k. take n (drop place (take k block))) sum
      ∙ ap (take n) (drop-take place m block)
      ∙ take-take n m (drop place block) (omega arith)

  -- a part that begins behind the written bytes is as it was
  pub written_above : (place : ℕ) → at + length bytes ≤ place
      → drop place (spliced at bytes block) ≡ drop place block
  written_above place behind =
      let n = length bytes in let j = place - (at + n) in
      let sum : place ≡ at + (n + j) = omega arith in
      ap (λ k. drop k (spliced at bytes block)) sum
      ∙ sym (drop-drop (n + j) at (spliced at bytes block))
      ∙ ap (drop (n + j)) written_from
      ∙ sym (drop-drop j n (bytes ++ drop n (drop at block)))
      ∙ ap (drop j) (drop_at bytes (drop n (drop at block)) n refl)
      ∙ drop-drop j n (drop at block)
      ∙ drop-drop (n + j) at block
      ∙ ap (λ k. drop k block) (sym sum)

-- a block of parts of one length, of which part k is written
module _ (n k : ℕ) (bytes block : List ℕ) (long : length bytes ≡ n) (fits : k * n + n ≤ length block) where
  -- the length of the block stays
  pub length_written : length (spliced (k * n) bytes block) ≡ length block
  length_written = ap length (written_is (k * n) bytes block (omega (arith, long, fits))) ∙ omega (
    arith,
    long,
    fits,
    length-append (take (k * n) block) (bytes ++ drop (length bytes) (drop (k * n) block)),
    length-append bytes (drop (length bytes) (drop (k * n) block)),
    length-take (k * n) block,
    length-drop (length bytes) (drop (k * n) block),
    length-drop (k * n) block,
  )

  -- part k is what was written
  pub part_written : take n (drop (k * n) (spliced (k * n) bytes block)) ≡ bytes
  part_written =
      ap (λ m. take m (drop (k * n) (spliced (k * n) bytes block))) (sym long)
      ∙ written_there (k * n) bytes block (omega (arith, long, fits))

  -- each part but k is as it was
  pub part_kept : (i : ℕ) → i ≢ k
      → take n (drop (i * n) (spliced (k * n) bytes block)) ≡ take n (drop (i * n) block)
  part_kept i apart = elim (cases_lt i k) [
    | inl below ↦ written_below (k * n) bytes block (omega (arith, long, fits)) (i * n) n
        (omega (arith, mul-le-mul_right n below))
    | inr above ↦
        let next : suc k ≤ i = omega arith in
        ap (take n) (written_above (k * n) bytes block (omega (arith, long, fits)) (i * n)
        (omega (arith, long, mul-le-mul_right n next)))
  ]

module _ (pool : Region) (lease : Held) (bytes : List ℕ) (whole : HasWholeBuffers pool) (of : IsOf lease pool)
    (long : length bytes ≡ pool.room) where
  fits : lease.buffer * pool.room + pool.room ≤ length pool.block
  fits = buffer_within lease.buffer pool.room pool.free pool.block of.out whole

  -- what is written through a lease is what it shows
  pub own_bytes : leased_bytes lease (with_bytes lease pool bytes) ≡ bytes
  own_bytes = part_written pool.room lease.buffer bytes pool.block long fits

  -- no other lease shows a byte of what is written through one
  pub others_bytes : (other : Held) → other.buffer ≢ lease.buffer
      → leased_bytes other (with_bytes lease pool bytes) ≡ leased_bytes other pool
  others_bytes other apart = part_kept pool.room lease.buffer bytes pool.block long fits other.buffer apart

  -- the block is still all buffers
  pub whole_written : HasWholeBuffers (with_bytes lease pool bytes)
  whole_written = length_written pool.room lease.buffer bytes pool.block long fits ∙ whole

-- a lease shows as many bytes as a buffer has
pub length_bytes : (pool : Region) (lease : Held) → HasWholeBuffers pool → IsOf lease pool
    → length (leased_bytes lease pool) ≡ pool.room
length_bytes pool lease whole of =
    let within = buffer_within lease.buffer pool.room pool.free pool.block of.out whole in
    omega (
      arith,
      within,
      length-take pool.room (drop (lease.buffer * pool.room) pool.block),
      length-drop
          (lease.buffer * pool.room) pool.block,
    )
