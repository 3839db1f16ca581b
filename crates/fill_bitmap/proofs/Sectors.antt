-- A set with the blocks of one sector of the bitmap.
use Rattle.std.proofs.Common.{◌≡◌, ℕ, ◌+◌, ◌*◌, ◌/◌, ◌<◌, ◌≤◌, ◌==◌, min, Bool, true, false, ◌&&◌, ◌||◌, List, length, arith, inl, inr, sym, ◌∙◌}
use Rattle.std.proofs.lemmas.Bool.{cases_lt}
use Rattle.std.proofs.lemmas.Bool.Decides.{nat_tests}
use Rattle.std.proofs.lemmas.List.FromFn.{fill_by_all, length-map-range_with_len, get_or-map-range_with_len}
use Rattle.fill_bitmap.specs.Bits.{has_bit}
use Rattle.fill_bitmap.specs.BlockSet.{has, has_added, with_sector}

other : (k j : ℕ) (x y : Bool) → (j / 4096 ≡ k → ⊥) → (x || ((j / 4096 == k) && y)) ≡ x
other k j true y apart = grind arith
other k j false y apart = grind (arith, nat_tests)

-- a block behind the sector's last is as it was
added_behind : (k : ℕ) (sector : List ℕ) (set : List Bool) (b : ℕ) → k * 4096 + 4096 ≤ b
    → has_added k sector set b ≡ has set b
added_behind k sector set b behind = other k b (has set b) (has_bit sector b) (λ e. omega arith)

-- a set whose blocks below a place, which the sector's end isn't above, are as they are to be, and the others as they
-- were
pub all_added : (k : ℕ) (sector : List ℕ) (old new : List Bool) (place : ℕ) → length new ≡ length old
    → min (length old) (k * 4096 + 4096) ≤ place
    → ((b : ℕ) → b < place → has new b ≡ has_added k sector old b)
    → ((b : ℕ) → place ≤ b → has new b ≡ has old b)
    → new ≡ with_sector k sector old
unfolding with_sector
all_added k sector old new place same far below behind =
    fill_by_all (has_added k sector old) new (length old) false same (λ b inside. elim (cases_lt b place) [
      | inl low ↦ below b low
      | inr high ↦ behind b high ∙ sym (added_behind k sector old b (omega arith))
    ])

-- a set with a sector's blocks has as many places
pub length-with_sector : (k : ℕ) (sector : List ℕ) (set : List Bool) → length (with_sector k sector set) ≡ length set
unfolding with_sector
length-with_sector k sector set = length-map-range_with_len (has_added k sector set) 0 (length set)

-- what a set with a sector's blocks has
pub has-with_sector : (k : ℕ) (sector : List ℕ) (set : List Bool) (b : ℕ) → b < length set
    → has (with_sector k sector set) b ≡ has_added k sector set b
unfolding with_sector
has-with_sector k sector set b inside = get_or-map-range_with_len (has_added k sector set) 0
    (length set) b b false inside (omega arith)
