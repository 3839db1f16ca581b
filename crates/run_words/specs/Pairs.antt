-- What the words behind the command are: pairs of a name and a value.
use Rattle.std.specs.Prelude.{ℕ, ◌==◌, Bool, true, false, ◌&&◌, not, List, [], ◌∷◌, codes, if◌then◌else◌, Option, Some, None, is_none, map, String}
use Rattle.std.specs.List.{before_first, after_first, list_any}
use Rattle.std.specs.Str.{bytes_eq}
use Rattle.std.specs.String.{string_bytes}

-- the bytes of each word
abbrev pub texts : {Z : Type 0} → List (String Z) → List (List ℕ)
texts words = map string_bytes words

-- a name and its value
pub record Pair : Type 0 where
  pub name : List ℕ
  pub value : List ℕ

-- a word split at its first `=` (61); without one, all of it is the name
abbrev pub split : List ℕ → Pair
split word =
    record { name = before_first (λ c. c == 61) word; value = after_first (λ c. c == 61) word }

-- a word with a `=` (61)
abbrev pub is_joined : List ℕ → Bool
is_joined word = list_any (λ c. c == 61) word

-- a word with a `=` is a pair by itself, any other is one with the next, the last with nothing
abbrev pub pairs : List (List ℕ) → List Pair
pairs [] = []
pairs (word ∷ []) = split word ∷ []
pairs (word ∷ next ∷ rest) =
    if is_joined word then split word ∷ pairs (next ∷ rest)
    else record { name = word; value = next } ∷ pairs rest

-- the value of the first pair with this name
abbrev pub value_of : List Pair → List ℕ → Option (List ℕ)
value_of [] name = None
value_of (pair ∷ rest) name =
    if bytes_eq pair.name name then Some pair.value else value_of rest name

-- the names of the options
abbrev pub names : List (List ℕ)
names = codes "--image" ∷ codes "--disk" ∷ codes "--schedule" ∷ codes "--report" ∷ codes "--out"
    ∷ codes "--mode" ∷ codes "--id" ∷ codes "--block" ∷ codes "--gap" ∷ codes "--window"
    ∷ codes "--limit" ∷ codes "--memory" ∷ codes "--pool" ∷ []

-- a text is the name of an option
abbrev pub is_name : List ℕ → Bool
is_name text = list_any (λ name. bytes_eq text name) names

-- a value isn't empty and doesn't begin with `-` (45)
abbrev pub is_value : List ℕ → Bool
is_value [] = false
is_value (c ∷ rest) = not (c == 45)

-- each pair is an option and its value, and no name stands twice
abbrev pub are_options : List Pair → Bool
are_options [] = true
are_options (pair ∷ rest) =
    is_name pair.name && is_value pair.value && is_none (value_of rest pair.name)
    && are_options rest
