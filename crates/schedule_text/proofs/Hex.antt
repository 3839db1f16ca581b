-- Hexadecimal: what two digits, and the text of many bytes, tell.
use Rattle.std.proofs.Common.{ℕ, zero, suc, Bool, true, false, ◌&&◌, ◌≡◌, ◌≢◌, ◌<◌, ◌≤◌, ◌+◌, ◌*◌, ◌/◌, ◌%◌, ◌^◌, ◌++◌, List, [], ◌∷◌, length, get_or, take, ap, ap₂, sym, ◌∙◌, refl, arith, subst, append-nil, append_assoc}
use Rattle.std.proofs.lemmas.Grind.{flat_map-append}
use Rattle.std.proofs.lemmas.List.{take_more, take_more_set}
use Rattle.std.proofs.Math.ListN.{set}
use Rattle.std.specs.Prelude.{nat_lt}
use Rattle.std.specs.Int.{w32, to_be_bytes, from_be_bytes}
use Rattle.std.proofs.lemmas.Bool.Decides.{nat_tests}
use Rattle.std.proofs.lemmas.Nat.{be_bytes_4, from_be_bytes-to_be_bytes_4}
use Rattle.schedule_text.specs.Line.{value_of, hex_digit, hex_byte, hex_text, hex_long, AreBytes}

-- equal lists have equal numbers
pub byte_at : {s t : List ℕ} (i : ℕ) → s ≡ t → get_or s i 0 ≡ get_or t i 0
byte_at i e = ap (λ s. get_or s i 0) e

-- a digit is that of its value
digit_is : (c : ℕ) → value_of c < 16 → hex_digit (value_of c) ≡ c
digit_is c low = grind (arith, nat_tests)

value_of-hex_digit : (v : ℕ) → v < 16 → value_of (hex_digit v) ≡ v
value_of-hex_digit v low = grind (arith, nat_tests)

-- the value of a byte's two digits
abbrev pub byte_value : ℕ → ℕ → ℕ
byte_value high low = value_of high * 16 + value_of low

pub byte_value-hex_byte : (v : ℕ) → v < 256 → byte_value (hex_digit (v / 16)) (hex_digit (v % 16)) ≡ v
byte_value-hex_byte v small =
    let high = value_of-hex_digit (v / 16) (omega arith) in
    let low = value_of-hex_digit (v % 16) (omega arith) in
    let split : (v / 16) * 16 + v % 16 ≡ v = omega arith in
    ap₂ (λ (a b : ℕ). a * 16 + b) high low ∙ split

-- the bytes of text
abbrev pub told_bytes : List ℕ → List ℕ
told_bytes [] = []
told_bytes (high ∷ []) = []
told_bytes (high ∷ low ∷ rest) = byte_value high low ∷ told_bytes rest

pub told_bytes-front : (bytes rest : List ℕ) → AreBytes bytes
    → told_bytes (hex_text bytes ++ rest) ≡ bytes ++ told_bytes rest
told_bytes-front [] rest all = refl
told_bytes-front (b ∷ bytes) rest all = ap₂ (λ (x : ℕ) (xs : List ℕ). x ∷ xs) (byte_value-hex_byte b all.0)
    (told_bytes-front bytes rest all.1)

pub told_bytes-hex_text : (bytes : List ℕ) → AreBytes bytes → told_bytes (hex_text bytes) ≡ bytes
told_bytes-hex_text bytes all = ap told_bytes (sym (append-nil (hex_text bytes))) ∙ told_bytes-front bytes [] all
    ∙ append-nil bytes

pub length-hex_text : (bytes : List ℕ) → length (hex_text bytes) ≡ 2 * length bytes
length-hex_text [] = refl
length-hex_text (b ∷ bytes) = let rest = length-hex_text bytes in omega arith

-- one more byte
AreBytes-push : (xs : List ℕ) (b : ℕ) → AreBytes xs → b < 256 → AreBytes (xs ++ b ∷ [])
AreBytes-push [] b all small = (small, tt)
AreBytes-push (x ∷ xs) b all small = (all.0, AreBytes-push xs b all.1 small)

pub more_bytes : (xs new : List ℕ) (b : ℕ) → AreBytes xs → b < 256 → new ≡ xs ++ b ∷ [] → AreBytes new
more_bytes xs new b all small is = subst AreBytes (sym is) (AreBytes-push xs b all small)

-- the number of 32 bits that text begins with
abbrev pub told_long : List ℕ → ℕ
told_long text = from_be_bytes w32 (told_bytes text)

long_bytes : (v : ℕ) → AreBytes (to_be_bytes w32 v)
long_bytes v = (omega arith, (omega arith, (omega arith, (omega arith, tt))))

pub told_long-hex_long : (v : ℕ) (rest : List ℕ) → v < 2 ^ 32 → told_long (hex_long v ++ rest) ≡ v
told_long-hex_long v rest small = ap (from_be_bytes w32) (told_bytes-front (to_be_bytes w32 v) rest (long_bytes v)) ∙
    from_be_bytes-to_be_bytes_4 v small

small : (a b c d : ℕ) → a < 256 → b < 256 → c < 256 → d < 256 → (i : ℕ) → get_or (a ∷ b ∷ c ∷ d ∷ []) i 0 < 256
small a b c d first second third fourth zero = first
small a b c d first second third fourth (suc zero) = second
small a b c d first second third fourth (suc (suc zero)) = third
small a b c d first second third fourth (suc (suc (suc zero))) = fourth
small a b c d first second third fourth (suc (suc (suc (suc i)))) = omega arith

-- four bytes in hexadecimal are the text of their number
pub long_told : (a b c d v : ℕ) → a < 256 → b < 256 → c < 256 → d < 256 → v ≡ from_be_bytes w32 (a ∷ b ∷ c ∷ d ∷ [])
    → hex_long v ≡ hex_text (a ∷ b ∷ c ∷ d ∷ [])
long_told a b c d v first second third fourth is = ap hex_text (be_bytes_4 (a ∷ b ∷ c ∷ d ∷ []) v refl
    (small a b c d first second third fourth) is)

pub long_front : (a b c d v : ℕ) (text r s t rest : List ℕ) → a < 256 → b < 256 → c < 256 → d < 256
    → v ≡ from_be_bytes w32 (a ∷ b ∷ c ∷ d ∷ []) → text ≡ hex_byte a ++ r → r ≡ hex_byte b ++ s → s ≡ hex_byte c ++ t
    → t ≡ hex_byte d ++ rest → text ≡ hex_long v ++ rest
long_front a b c d v text r s t rest first second third fourth is one two three four =
    one ∙ ap (λ (z : List ℕ). hex_byte a ++ z) (two ∙ ap (λ (z : List ℕ). hex_byte b ++ z)
    (three ∙ ap (λ (z : List ℕ). hex_byte c ++ z) four))
    ∙ ap (λ (z : List ℕ). z ++ rest) (sym (long_told a b c d v first second third fourth is))

-- the first bytes, so many, are those of the text's first digits
pub record IsFront (i : ℕ) (text bytes : List ℕ) : Type 0 where
  pub all : AreBytes (take i bytes)
  pub text_is : take (2 * i) text ≡ hex_text (take i bytes)

-- two digits are those of the byte that their values make
two_digits : (c d h l : ℕ) → h ≡ value_of c → l ≡ value_of d → h < 16 → l < 16
    → hex_byte (h % 16 * 16 + l % 16) ≡ c ∷ d ∷ []
two_digits c d h l is also high low =
    let front : (h % 16 * 16 + l % 16) / 16 ≡ h = omega arith in
    let back : (h % 16 * 16 + l % 16) % 16 ≡ l = omega arith in
    rw (front, back, is, also) (ap₂ (λ (x y : ℕ). x ∷ y ∷ []) (digit_is c (rw (← is) high)) (digit_is d (rw (← also) low)))

-- the next two digits
two_more : (i : ℕ) (text : List ℕ) → 2 * i + 1 < length text
    → take (2 * (i + 1)) text ≡ take (2 * i) text ++ get_or text (2 * i) 0 ∷ get_or text (2 * i + 1) 0 ∷ []
two_more i text within =
    let place : 2 * (i + 1) ≡ 2 * i + 1 + 1 = omega arith in
    rw (place, take_more text (2 * i + 1) 0 within, take_more text (2 * i) 0 (omega arith))
    (append_assoc (take (2 * i) text) (get_or text (2 * i) 0 ∷ []) (get_or text (2 * i + 1) 0 ∷ []))

-- one byte more was put behind the first ones
pub front_more : (i h l : ℕ) (text bytes : List ℕ) → length text ≡ 2 * length bytes → i < length bytes
    → h ≡ value_of (get_or text (2 * i) 0) → l ≡ value_of (get_or text (2 * i + 1) 0) → h < 16 → l < 16
    → IsFront i text bytes → IsFront (i + 1) text (set bytes i (h % 16 * 16 + l % 16))
front_more i h l text bytes whole within is also high low front =
    let pushed = take_more_set bytes i (h % 16 * 16 + l % 16) within in
    record {
      all = more_bytes (take i bytes) _ (h % 16 * 16 + l % 16) front.all (omega arith) pushed;
      text_is = two_more i text (omega arith) ∙ rw (front.text_is, pushed)
          (sym (flat_map-append hex_byte (take i bytes) ((h % 16 * 16 + l % 16) ∷ [])
          ∙ ap (λ (z : List ℕ). hex_text (take i bytes) ++ z) (two_digits _ _ h l is also high low)));
    }

-- the digits of a byte have values
digits_at : (i : ℕ) (all : List ℕ) → AreBytes all → i < length all
    → (value_of (get_or (hex_text all) (2 * i) 0) < 16) × (value_of (get_or (hex_text all) (2 * i + 1) 0) < 16)
digits_at i [] bytes within = absurd (omega arith)
digits_at zero (b ∷ all) bytes within = (
  rw (value_of-hex_digit (b / 16) (omega (arith, bytes.0))) (omega (arith, bytes.0)),
  rw (value_of-hex_digit (b % 16) (omega arith)) (omega arith),
)
digits_at (suc i) (b ∷ all) bytes within =
    let first : 2 * suc i ≡ suc (suc (2 * i)) = omega arith in
    let second : 2 * suc i + 1 ≡ suc (suc (2 * i + 1)) = omega arith in
    let rest = digits_at i all bytes.1 (omega arith) in (rw first rest.0, rw second rest.1)

digits_told : (i h l : ℕ) (text all : List ℕ) → 2 * i + 1 < length text → h ≡ value_of (get_or text (2 * i) 0)
    → l ≡ value_of (get_or text (2 * i + 1) 0) → AreBytes all → text ≡ hex_text all → (h < 16) × (l < 16)
digits_told i h l text all within is also bytes e =
    let there = digits_at i all bytes (omega (arith, ap length e, length-hex_text all)) in
    (rw (is, e) there.0, rw (also, e) there.1)

-- text that isn't that of bytes up to here, or has no digit here, is none
never : (good : Bool) (h l : ℕ) (text all : List ℕ) → (good ≡ false → text ≢ hex_text all)
    → (text ≡ hex_text all → (h < 16) × (l < 16)) → (good && nat_lt h 16) && nat_lt l 16 ≡ false
    → text ≢ hex_text all
never false h l text all before here bad e = before refl e
never true h l text all before here bad e = let low = here e in absurd (grind (arith, nat_tests))

pub never_more : (good : Bool) (i h l : ℕ) (text : List ℕ)
    → (good ≡ false → (all : List ℕ) → AreBytes all → text ≢ hex_text all) → 2 * i + 1 < length text
    → h ≡ value_of (get_or text (2 * i) 0) → l ≡ value_of (get_or text (2 * i + 1) 0)
    → (good && nat_lt h 16) && nat_lt l 16 ≡ false → (all : List ℕ) → AreBytes all → text ≢ hex_text all
never_more good i h l text before within is also bad all bytes = never good h l text all (λ no. before no all bytes)
    (digits_told i h l text all within is also bytes) bad

-- what three tests say together
pub all_three : (good : Bool) (h l : ℕ) → (good && nat_lt h 16) && nat_lt l 16 ≡ true
    → (good ≡ true) × (h < 16) × (l < 16)
all_three true h l e = (refl, grind (arith, nat_tests), grind (arith, nat_tests))
all_three false h l e = absurd cc

-- the text of one byte or more, and so many at most, is twice as long
pub sized : (most : ℕ) (text all : List ℕ) → (1 ≤ length all) → (length all ≤ most) → text ≡ hex_text all
    → (length text ≢ 0) × (length text % 2 ≡ 0) × (length text / 2 ≤ most)
sized most text all some few is =
    let twice = ap length is ∙ length-hex_text all in (omega arith, omega arith, omega arith)

-- how long text is
pub ruleset lengths = (length-hex_text)
