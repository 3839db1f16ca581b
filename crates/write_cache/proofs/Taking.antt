-- An entry that is taken out of the middle of a ring.
use Rattle.std.proofs.Common.{◌≡◌, ℕ, ◌+◌, ◌-◌, ◌≤◌, not, List, ◌++◌, length, take, drop, slice_get, Option, Some, None, sym, ap, ◌∙◌, arith, length-append, length-take, length-drop}
use Rattle.circular_buffer.specs.Buffer.{Buffer, buffer}
use Rattle.write_cache.specs.declared.entry.Entry.{Entry}
use Rattle.write_cache.specs.Cache.{is_of, entries_but, taken, taken_at}
use Rattle.write_cache.proofs.Rings.{length-filter-le, taken_first, taken_out}

length-taken-le : (o : Option Entry) (k : ℕ) (xs : List Entry) → length (taken o k xs) ≤ length xs
length-taken-le None k xs = omega arith
length-taken-le (Some x) k xs =
    let kept = entries_but x.sector (take k xs) in
    omega (
      arith,
      length-append kept (drop (k + 1) xs),
      length-filter-le (λ e. not (is_of x.sector e))
          (take k xs),
      length-take k xs,
      length-drop (k + 1) xs,
    )

-- no more are left than there were
pub length-taken_at-le : (k : ℕ) (xs : List Entry) → length (taken_at k xs) ≤ length xs
length-taken_at-le k xs = length-taken-le (slice_get xs k) k xs

-- the older ones pass, the entry goes, and those that stay come back
module _ (old passed : Buffer Entry) (k : ℕ) (x : Entry) (there : slice_get old.items k ≡ Some x)
    (passing : passed ≡ buffer (drop k old.items ++ entries_but x.sector (take k old.items)) old.capacity) where
  pub entry_first : slice_get passed.items 0 ≡ Some x
  entry_first = taken_first old.items passed.items _ k x there (ap (λ b. b.items) passing)

  pub ring_taken : (popped back : Buffer Entry) (n : ℕ) → n ≡ length (entries_but x.sector (take k old.items))
      → popped ≡ buffer (drop 1 passed.items) passed.capacity
      → back ≡ buffer (drop (length popped.items - n) popped.items ++ take (length popped.items - n) popped.items)
      popped.capacity
      → back ≡ buffer (taken_at k old.items) old.capacity
  ring_taken popped back n number popping coming =
      let left : popped.items ≡ drop 1 passed.items = ap (λ b. b.items) popping in
      let items : drop (length popped.items - n) popped.items ++ take (length popped.items - n)
      popped.items ≡ taken_at k old.items
      = ap (λ l. drop (length l - n) l ++ take (length l - n) l) left
      ∙ taken_out old.items passed.items _ k x there (ap (λ b. b.items) passing) n number
      ∙ ap (λ o. taken o k old.items) (sym there) in
      let room : popped.capacity ≡ old.capacity = ap (λ b. b.capacity) popping ∙ ap (λ b. b.capacity) passing in
      coming ∙ (λ i. buffer (items i) (room i))
