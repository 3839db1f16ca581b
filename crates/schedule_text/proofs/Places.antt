-- A frame's place: its digits, and whether ` keep` stands behind them.
use Rattle.std.proofs.Common.{ℕ, ◌≡◌, ◌≢◌, ◌++◌, ◌==◌, if◌then◌else◌, Bool, true, false, List, [], ◌∷◌, ap, sym, ◌∙◌, arith, refl}
use Rattle.std.specs.Str.Parse.{AllDigits}
use Rattle.std.proofs.lemmas.Str.Parse.{digit_from_value}
use Rattle.std.proofs.lemmas.List.{append_cancel_right}
use Rattle.decimal_text.specs.Decimal.{IsDecimal}
use Rattle.schedule_text.specs.Line.{keep_text}

-- the bytes in front of the first space (32), or all of them
abbrev pub first_word : List ℕ → List ℕ
first_word [] = []
first_word (c ∷ rest) = if c == 32 then [] else c ∷ first_word rest

-- the bytes have a space
abbrev pub has_space : List ℕ → Bool
has_space [] = false
has_space (c ∷ rest) = if c == 32 then true else has_space rest

digits_told : (t : List ℕ) (keep : Bool) → AllDigits 10 t
    → (first_word (t ++ keep_text keep) ≡ t) × (has_space (t ++ keep_text keep) ≡ keep)
digits_told [] true all = (refl, refl)
digits_told [] false all = (refl, refl)
digits_told (c ∷ t) keep all =
    let rest = digits_told t keep all.1 in
    let digit = digit_from_value c all.0 in
    let other : c ≢ 32 = omega arith in
    (grind arith, grind arith)

-- the digits and the word behind them are told by the first space
pub place_told : (t : List ℕ) (keep : Bool) → IsDecimal t
    → (first_word (t ++ keep_text keep) ≡ t) × (has_space (t ++ keep_text keep) ≡ keep)
place_told t keep whole = digits_told t keep whole.0.1

has_space-behind : (t rest : List ℕ) → has_space (t ++ 32 ∷ rest) ≡ true
has_space-behind [] rest = refl
has_space-behind (c ∷ t) rest = let more = has_space-behind t rest in grind arith

-- what stands in front of ` keep` is the place, where one does
pub kept_once : (t u : List ℕ) (keep : Bool) → IsDecimal u → t ++ keep_text true ≡ u ++ keep_text keep
    → (t ≡ u) × (true ≡ keep)
kept_once t u true whole is = (append_cancel_right t u (keep_text true) is, refl)
kept_once t u false whole is =
    let none : has_space (t ++ keep_text true) ≡ false = ap has_space is ∙ (place_told u false whole).1 in
    let both : true ≡ false = sym (has_space-behind t _) ∙ none in
    absurd cc
