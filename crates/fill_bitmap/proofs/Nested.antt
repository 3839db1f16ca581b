-- Sets within sets.
use Rattle.std.proofs.Common.{◌≡◌, ℕ, ◌==◌, ◌<◌, ◌/◌, Bool, true, false, ◌||◌, ◌&&◌, List, length, slice_set, refl, arith, inl, inr, sym, ◌∙◌}
use Rattle.std.proofs.Math.Path.{subst}
use Rattle.std.proofs.lemmas.Bool.{cases_lt}
use Rattle.std.proofs.lemmas.Bool.Decides.{eqb_tells}
use Rattle.std.proofs.lemmas.List.{get_or_past, length-set, get_or-set_same, get_or-set_other}
use Rattle.fill_bitmap.specs.Bits.{has_bit}
use Rattle.fill_bitmap.specs.BlockSet.{has, IsWithin, with_sector}
use Rattle.fill_bitmap.specs.Bitmap.{Sets, IsNested, blocks_in, with_filled, loaded}
use Rattle.fill_bitmap.proofs.Sectors.{length-with_sector, has-with_sector}

or_kept : (x y z : Bool) → (x ≡ true → y ≡ true) → (x || z) ≡ true → (y || z) ≡ true
or_kept true y z kept h = let all = kept refl in grind arith
or_kept false true z kept h = refl
or_kept false false z kept h = h

-- one set stays within another where both get the same blocks
within_kept : (k : ℕ) (sector : List ℕ) (inner outer : List Bool) → length inner ≡ length outer
    → IsWithin inner outer → IsWithin (with_sector k sector inner) (with_sector k sector outer)
within_kept k sector inner outer same within b held = elim (cases_lt b (length inner)) [
  | inl inside ↦ has-with_sector k sector outer b (omega arith)
      ∙ or_kept (has inner b) (has outer b) ((b / 4096 == k) && has_bit sector b) (within b)
      (sym (has-with_sector k sector inner b inside) ∙ held)
  | inr past ↦
      let beyond = get_or_past (with_sector k sector inner) b false
      (omega (arith, length-with_sector k sector inner)) in
      let none : true ≡ false = sym held ∙ beyond in cc
]

-- sets that get the same blocks stay within each other
pub loaded_nested : (k : ℕ) (sector : List ℕ) (s : Sets) → IsNested s → IsNested (loaded k sector s)
loaded_nested k sector s nested = record {
  stored_blocks = length-with_sector k sector s.stored ∙ nested.stored_blocks
      ∙ sym (length-with_sector k sector s.filled);
  frozen_blocks = length-with_sector k sector s.frozen ∙ nested.frozen_blocks
      ∙ sym (length-with_sector k sector s.filled);
  stored_frozen = within_kept k sector s.stored s.frozen (nested.stored_blocks ∙ sym nested.frozen_blocks)
      nested.stored_frozen;
  frozen_filled = within_kept k sector s.frozen s.filled nested.frozen_blocks nested.frozen_filled;
}

-- a bitmap to which a sector was added has as many blocks as before
pub blocks_kept : (k : ℕ) (sector : List ℕ) (s : Sets) → blocks_in (loaded k sector s) ≡ blocks_in s
blocks_kept k sector s = length-with_sector k sector s.filled

-- a set stays within another to which a block is added
within_more : (inner outer : List Bool) (b : ℕ) → b < length outer → IsWithin inner outer
    → IsWithin inner (slice_set outer b true)
within_more inner outer b inside within j held = elim (eqb_tells j b) [
  | inl (test, same) ↦ subst (λ i. has (slice_set outer b true) i ≡ true) (sym same)
      (get_or-set_same outer b true false inside)
  | inr (test, apart) ↦ get_or-set_other outer b j true false apart ∙ within j held
]

-- sets stay within each other where a block is filled
pub filled_nested : (b : ℕ) (s : Sets) → b < blocks_in s → IsNested s → IsNested (with_filled b s)
filled_nested b s inside nested = record {
  stored_blocks = nested.stored_blocks ∙ sym (length-set s.filled b true);
  frozen_blocks = nested.frozen_blocks ∙ sym (length-set s.filled b true);
  stored_frozen = nested.stored_frozen;
  frozen_filled = within_more s.frozen s.filled b inside nested.frozen_filled;
}
