-- A word and its first `=`.
use Rattle.std.proofs.Common.{ℕ, ◌≡◌, ◌<◌, ◌==◌, List, [], ◌∷◌, length, true, false, refl, arith, Bor, Some, None}
use Rattle.std.specs.List.{position_or_len, before_first, after_first}
use Rattle.std.proofs.lemmas.List.{take_all}
use Rattle.std.proofs.Math.ListN.{drop_of_length-le}
use Rattle.std.proofs.lemmas.Str.Pattern.{IsSplitOnceResult, split_once_first}
use Rattle.std.specs.Prelude.{String}
use Rattle.std.proofs.lemmas.Bool.Decides.{nat_tests}
use Rattle.run_words.specs.Pairs.{texts, split, is_joined, pairs}

-- a word without a `=` has no place of one
pub joined_nowhere : (word : List ℕ) → position_or_len (λ c. c == 61) word ≡ length word → is_joined word ≡ false
joined_nowhere [] at_end = refl
joined_nowhere (c ∷ rest) at_end = grind (arith, nat_tests, joined_nowhere rest)

pub joined_somewhere : (word : List ℕ) → position_or_len (λ c. c == 61) word < length word → is_joined word ≡ true
joined_somewhere [] before = absurd (omega arith)
joined_somewhere (c ∷ rest) before = grind (arith, nat_tests, joined_somewhere rest)

-- a word without a `=` is all name
pub joined_at_end : (word : List ℕ) → is_joined word ≡ false → position_or_len (λ c. c == 61) word ≡ length word
joined_at_end [] plain = refl
joined_at_end (c ∷ rest) plain = grind (arith, nat_tests, joined_at_end rest)

pub all_before : (word : List ℕ) → is_joined word ≡ false → before_first (λ c. c == 61) word ≡ word
all_before word plain = take_all _ word (omega (arith, joined_at_end word plain))

pub nothing_after : (word : List ℕ) → is_joined word ≡ false → after_first (λ c. c == 61) word ≡ []
nothing_after word plain = drop_of_length-le word (omega (arith, joined_at_end word plain))

-- a word with a `=` is a pair by itself
pub pairs_joined : (word : List ℕ) (words : List (List ℕ)) → is_joined word ≡ true
    → pairs (word ∷ words) ≡ split word ∷ pairs words
pairs_joined word [] joined = refl
pairs_joined word (next ∷ rest) joined = grind (arith, joined)

-- the last word without a `=` is a pair with nothing
pub pairs_last : {Z : Type 0} (word : List ℕ) (words : List (String Z)) → length words < 1 → is_joined word ≡ false
    → pairs (word ∷ texts words) ≡ record { name = word; value = [] } ∷ pairs (texts words)
pairs_last word [] short plain = grind (arith, all_before word plain, nothing_after word plain)
pairs_last word (next ∷ rest) short plain = absurd (omega arith)

pub pairs_apart : (word next : List ℕ) (rest : List (List ℕ)) → is_joined word ≡ false
    → pairs (word ∷ next ∷ rest) ≡ record { name = word; value = next } ∷ pairs rest
pairs_apart word next rest plain = grind (arith, plain)

-- where `split_once` finds nothing, the word has no `=`; where it cuts, the word is split
pub splits_nowhere : (word : List ℕ) → IsSplitOnceResult 61 word None → is_joined word ≡ false
splits_nowhere word found = joined_nowhere word (split_once_first 61 word None found (omega arith))

pub splits_at_first : (word : List ℕ) (name value : Bor (List ℕ)) → IsSplitOnceResult 61 word (Some (name, value))
    → (is_joined word ≡ true) × (split word ≡ record { name = name.now; value = value.now })
splits_at_first word name value found =
    let parts = split_once_first 61 word (Some (name, value)) found (omega arith) in
    (joined_somewhere word parts.0, cc)

-- how words make pairs
pub ruleset splits = (pairs_joined, pairs_last, pairs_apart)
