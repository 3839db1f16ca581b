-- Decimals and the numbers that they are the texts of.
use Rattle.std.proofs.Common.{ℕ, ◌≡◌, ◌<◌, ◌^◌, List, [], ◌∷◌, zero, suc, length, decimal, ap, sym, ◌∙◌, subst, arith, rules, IsTrue}
use Rattle.std.specs.Str.Parse.{AllDigits, digits_value}
use Rattle.std.specs.List.{list_all}
use Rattle.std.specs.Char.{is_ascii_digit}
use Rattle.std.proofs.lemmas.Str.Parse.{IsNumeralModel, numerals_by_value, digit_from_value}
use Rattle.std.proofs.lemmas.Fmt.{decimal-digits_value, decimal_is_IsNumeral, first_decimal, decimal_digit}
use Rattle.std.proofs.lemmas.Bool.Decides.{nat_tests}
use Rattle.decimal_text.specs.Decimal.{IsDecimal}

-- std's words for digits are their own model
own : IsNumeralModel (AllDigits 10) (digits_value 10)
own = numerals_by_value _ (search rules)

-- a decimal is the text of its value
pub decimal_of : (digits : List ℕ) → IsDecimal digits → digits_value 10 digits < 2 ^ 64
    → digits ≡ decimal (digits_value 10 digits)
decimal_of digits (numeral, single) small = sym (decimal-digits_value own digits numeral.1 numeral.0 single small)

-- the text of a number is a decimal, whose value is the number
pub decimal_told : (n : ℕ) → n < 2 ^ 64 → IsDecimal (decimal n) × (digits_value 10 (decimal n) ≡ n)
decimal_told zero small =
    let told = decimal_is_IsNumeral 0 small in
    ((told.0, (λ e. ap length (decimal_digit 0 (omega arith)))), told.1)
decimal_told (suc n) small =
    let told = decimal_is_IsNumeral (suc n) small in
    let first = first_decimal (suc n) (omega arith) small in
    ((told.0, (λ e. absurd (omega arith))), told.1)

-- a text that isn't a decimal is no number's
pub no_decimal : (text : List ℕ) → ¬ IsDecimal text → (n : ℕ) → n < 2 ^ 64 → text ≡ decimal n → ⊥
no_decimal text refused n small is = refused (subst IsDecimal (sym is) (decimal_told n small).0)

-- a text that is a number's has that number as its value
pub value_told : (text : List ℕ) (n : ℕ) → n < 2 ^ 64 → text ≡ decimal n → digits_value 10 text ≡ n
value_told text n small is = ap (digits_value 10) is ∙ (decimal_told n small).1

-- ASCII digits are what std reads as digits
pub only_digits : (t : List ℕ) → IsTrue (list_all is_ascii_digit t) → AllDigits 10 t
only_digits [] all = tt
only_digits (c ∷ cs) all = grind (arith, nat_tests, only_digits cs)

pub all_digits : (t : List ℕ) → AllDigits 10 t → IsTrue (list_all is_ascii_digit t)
all_digits [] all = search rules
all_digits (c ∷ cs) all = grind (arith, nat_tests, all_digits cs, digit_from_value c)

-- digits, and what std reads as digits
pub ruleset digits = (only_digits, all_digits)

-- a text of digits and its number
pub ruleset decimals = (decimal_of, no_decimal, value_told)
