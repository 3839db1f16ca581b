-- Decimal numbers as text.
use Rattle.std.specs.Prelude.{ℕ, ◌≡◌, List, length, slice_index}
use Rattle.std.specs.Str.Parse.{IsNumeral}

-- decimal digits, the first of them no 0 (48) unless it is the only one (own)
abbrev pub IsDecimal : List ℕ → Type 0
IsDecimal text = IsNumeral 10 text × (slice_index text 0 ≡ 48 → length text ≡ 1)
