-- Where pairs say nothing.
use Rattle.std.proofs.Common.{ℕ, ◌≡◌, ◌≢◌, ◌<◌, ◌^◌, List, false, true, codes, decimal, Some, None}
use Rattle.run_words.specs.declared.Mode.{Mode}
use Rattle.run_words.specs.Pairs.{Pair, value_of, are_options}
use Rattle.run_words.specs.Options.{Choice, FileNames, Sizes, mode_text, SaysPairs, SaysFiles, SaysSizes}

pub no_options : (given : List Pair) → are_options given ≡ false → (choice : Choice) → ¬ SaysPairs given choice
no_options given refused choice says = let told : are_options given ≡ true = says.options in cc

pub no_files : (given : List Pair) → ((names : FileNames) → ¬ SaysFiles given names) → (choice : Choice)
    → ¬ SaysPairs given choice
no_files given refused choice says = refused choice.files says.files

pub no_mode : (given : List Pair) → value_of given (codes "--mode") ≡ None → (choice : Choice)
    → ¬ SaysPairs given choice
no_mode given absent choice says = let told : value_of given (codes "--mode") ≡ Some (mode_text choice.mode) =
    says.mode in cc

pub other_mode : (given : List Pair) (text : List ℕ) → value_of given (codes "--mode") ≡ Some text
    → ((m : Mode) → text ≢ mode_text m) → (choice : Choice) → ¬ SaysPairs given choice
other_mode given text is refused choice says =
    let told : value_of given (codes "--mode") ≡ Some (mode_text choice.mode) = says.mode in
    refused choice.mode (cc)

pub no_id : (given : List Pair) → value_of given (codes "--id") ≡ None → (choice : Choice) → ¬ SaysPairs given choice
no_id given absent choice says = let told : value_of given (codes "--id") ≡ Some (decimal choice.id) = says.id in cc

pub other_id : (given : List Pair) (text : List ℕ) → value_of given (codes "--id") ≡ Some text
    → ((n : ℕ) → n < 2 ^ 64 → text ≢ decimal n) → (choice : Choice) → ¬ SaysPairs given choice
other_id given text is refused choice says =
    let told : value_of given (codes "--id") ≡ Some (decimal choice.id) = says.id in
    refused choice.id says.id_range (cc)

pub no_sizes : (given : List Pair) → ((sizes : Sizes) → ¬ SaysSizes given sizes) → (choice : Choice)
    → ¬ SaysPairs given choice
no_sizes given refused choice says = refused choice.sizes says.sizes

-- pairs that aren't a command line's say no choice
pub ruleset refusals = (no_options, no_files, no_mode, other_mode, no_id, other_id, no_sizes)
