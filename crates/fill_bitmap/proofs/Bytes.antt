-- Bytes of bits.
use Rattle.std.proofs.Common.{◌≡◌, ℕ, zero, suc, ◌+◌, ◌*◌, ◌^◌, ◌/◌, ◌%◌, ◌==◌, ◌<◌, ◌≤◌, Bool, true, false, if◌then◌else◌, List, [], ◌∷◌, length, get_or, take, drop, refl, arith, inl, inr, ◌∙◌, ap}
use Rattle.std.proofs.lemmas.Bool.{cases_lt}
use Rattle.std.proofs.Math.Nat.{pow-suc, one-le-pow, pow-le-pow_right}
use Rattle.std.proofs.lemmas.List.{drop_more, drop_all, get_or_past, get_or-take, get_or-drop}
use Rattle.std.proofs.lemmas.Nat.Bits.{bit_at-zero, bit_at_lowest, bit_at-suc}
use Rattle.std.specs.Int.{bit_at}
use Rattle.std.proofs.lemmas.List.FromFn.{fill_by_all, get_or-map-range_with_len}
use Rattle.fill_bitmap.specs.Bits.{byte_of, byte_from, bytes_from, sector_of, has_bit}
use Rattle.fill_bitmap.specs.BlockSet.{has}

-- n bits make a number below 2 ^ n
below_power : (n : ℕ) (bits : List Bool) → byte_of (take n bits) < 2 ^ n
below_power zero bits = omega arith
below_power (suc n) [] = let most : 0 < 2 ^ suc n = omega (arith, one-le-pow (suc n) 2 (omega arith)) in most
below_power (suc n) (true ∷ bits) = let rest = below_power n bits in rw pow-suc (omega arith)
below_power (suc n) (false ∷ bits) = let rest = below_power n bits in rw pow-suc (omega arith)

-- up to seven bits make a number below 128
pub byte_of-lt : (n : ℕ) (bits : List Bool) → n ≤ 7 → byte_of (take n bits) < 128
byte_of-lt n bits few =
    let below = below_power n bits in
    let most : 2 ^ n ≤ 2 ^ 7 = pow-le-pow_right (omega arith) few in omega arith

past_byte : (n : ℕ) → byte_of (take (suc n) []) ≡ 0 + 2 * byte_of (take n [])
past_byte zero = refl
past_byte (suc n) = refl

-- the bits of a set from one place on
front : (set : List Bool) (at n : ℕ)
    → byte_of (take (suc n) (drop at set)) ≡ (if get_or set at false then 1 else 0) + 2 * byte_of
    (take n (drop (at + 1) set))
front set at n = elim (cases_lt at (length set)) [
  | inl inside ↦ rw (drop_more set at false inside) refl
  | inr past ↦ rw (drop_all at set past) (let none : drop (at + 1) set ≡ [] = drop_all (at + 1) set (omega arith) in
      rw (none, get_or_past set at false past) (past_byte n))
]

-- one bit more, at the front
pub byte_more : (set : List Bool) (at next n more : ℕ) → next ≡ at + 1 → more ≡ n + 1
    → byte_of (take more (drop at set)) ≡ (if get_or set at false then 1 else 0) + 2 * byte_of (take n (drop next set))
byte_more set at next n more behind one = rw (behind, one) (let e : n + 1 ≡ suc n = omega arith in
    rw e (front set at n))

-- bytes that are each a byte of the blocks from one on
pub bytes_are : (n b : ℕ) (set : List Bool) (bytes : List ℕ) → length bytes ≡ n
    → ((j : ℕ) → j < n → get_or bytes j 0 ≡ byte_from (b + 8 * j) set) → bytes ≡ bytes_from n b set
unfolding bytes_from
bytes_are n b set bytes long each = fill_by_all (λ i. byte_from (b + 8 * i) set) bytes n 0 long each

-- a byte of some bits has these, the lowest first
pub bit_of_byte : (bits : List Bool) (n : ℕ) → (bit_at (byte_of bits) n == 1) ≡ get_or bits n false
bit_of_byte [] n = rw bit_at-zero refl
bit_of_byte (true ∷ bits) zero =
    let odd : bit_at (1 + 2 * byte_of bits) 0 ≡ 1 = bit_at_lowest (1 + 2 * byte_of bits) ∙ omega arith in
    rw odd refl
bit_of_byte (false ∷ bits) zero =
    let even : bit_at (0 + 2 * byte_of bits) 0 ≡ 0 = bit_at_lowest (0 + 2 * byte_of bits) ∙ omega arith in
    rw even refl
bit_of_byte (true ∷ bits) (suc n) =
    let half : (1 + 2 * byte_of bits) / 2 ≡ byte_of bits = omega arith in
    rw (bit_at-suc (1 + 2 * byte_of bits) n, half) (bit_of_byte bits n)
bit_of_byte (false ∷ bits) (suc n) =
    let half : (0 + 2 * byte_of bits) / 2 ≡ byte_of bits = omega arith in
    rw (bit_at-suc (0 + 2 * byte_of bits) n, half) (bit_of_byte bits n)

-- one of the bytes of the blocks from a place on
byte_in : (n b : ℕ) (set : List Bool) (i : ℕ) → i < n → get_or (bytes_from n b set) i 0 ≡ byte_from (b + 8 * i) set
unfolding bytes_from
byte_in n b set i inside = get_or-map-range_with_len (λ i. byte_from (b + 8 * i) set) 0 n i i 0 inside (omega arith)

-- a block's bit, among eight from a place on
bit_from : (p n : ℕ) (set : List Bool) → n < 8 → (bit_at (byte_from p set) n == 1) ≡ has set (p + n)
bit_from p n set few = bit_of_byte (take 8 (drop p set)) n ∙ get_or-take 8 (drop p set) n false few
    ∙ get_or-drop p set n false

-- the sector of the bitmap that holds a block has its bit set where the set has it
pub bit_written : (k b : ℕ) (set : List Bool) → b / 4096 ≡ k → has_bit (sector_of k set) b ≡ has set b
bit_written k b set here =
    let at : get_or (sector_of k set) (b % 4096 / 8) 0 ≡ byte_from (k * 4096 + 8 * (b % 4096 / 8)) set =
    byte_in 512 (k * 4096) set (b % 4096 / 8) (omega arith) in
    let bit = bit_from (k * 4096 + 8 * (b % 4096 / 8)) (b % 8) set (omega arith) in
    let same : k * 4096 + 8 * (b % 4096 / 8) + b % 8 ≡ b = omega arith in
    ap (λ byte. bit_at byte (b % 8) == 1) at ∙ bit ∙ ap (has set) same
