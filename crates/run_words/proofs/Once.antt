-- Words say one choice at most.
use Rattle.std.proofs.Common.{ℕ, ◌≡◌, ◌<◌, ◌^◌, List, ap, sym, ◌∙◌, arith, Option, Some, None, IfSome, IfNone, drop}
use Rattle.std.specs.Option.{option_map}
use Rattle.std.proofs.lemmas.Fmt.{decimal_injective}
use Rattle.run_words.specs.declared.Mode.{Mode}
use Rattle.run_words.specs.declared.Options.{Options}
use Rattle.run_words.specs.Pairs.{Pair, pairs}
use Rattle.run_words.specs.Options.{Choice, FileNames, Sizes, mode_text, seen, IsNumber, IsNumberIn, Says, SaysPairs, SaysFiles, SaysSizes}

-- a value is one text
value_once : (value : Option (List ℕ)) (a b : List ℕ) → value ≡ Some a → value ≡ Some b → a ≡ b
value_once value a b one other = cc

-- the word of a mode tells it
mode_once : (a b : Mode) → mode_text a ≡ mode_text b → a ≡ b
mode_once a b same = grind arith

-- a value says one number
pub number_once : (default : ℕ) (value : Option (List ℕ)) (m n : ℕ) → m < 2 ^ 64 → n < 2 ^ 64
    → IsNumber default value m → IsNumber default value n → m ≡ n
number_once default None m n low high one other = one ∙ sym other
number_once default (Some text) m n low high one other = decimal_injective m n low high (sym one ∙ other)

-- the same in some bounds
in_once : (least most default : ℕ) (value : Option (List ℕ)) (m n : ℕ) → most < 2 ^ 64
    → IsNumberIn least most default value m → IsNumberIn least most default value n → m ≡ n
in_once least most default value m n small one other =
    number_once default value m n (omega arith) (omega arith) one.0 other.0

files_once : (given : List Pair) (a b : FileNames) → SaysFiles given a → SaysFiles given b → a ≡ b
files_once given a b one other =
    let image : a.image ≡ b.image = value_once _ _ _ one.image other.image in
    let disk : a.disk ≡ b.disk = value_once _ _ _ one.disk other.disk in
    let schedule : a.schedule ≡ b.schedule = value_once _ _ _ one.schedule other.schedule in
    let report : a.report ≡ b.report = value_once _ _ _ one.report other.report in
    let out : a.out ≡ b.out = value_once _ _ _ one.out other.out in
    grind (arith, image, disk, schedule, report, out)

sizes_once : (given : List Pair) (a b : Sizes) → SaysSizes given a → SaysSizes given b → a ≡ b
sizes_once given a b one other =
    let block : a.block ≡ b.block = in_once _ _ _ _ _ _ (omega arith) one.block.0 other.block.0 in
    let gap : a.gap ≡ b.gap = in_once _ _ _ _ _ _ (omega arith) one.gap other.gap in
    let window : a.window ≡ b.window = in_once _ _ _ _ _ _ (omega arith) one.window other.window in
    let limit : a.limit ≡ b.limit = in_once _ _ _ _ _ _ (omega arith) one.limit other.limit in
    let memory : a.memory ≡ b.memory = in_once _ _ _ _ _ _ (omega arith) one.memory.0 other.memory.0 in
    let pool : a.pool ≡ b.pool = in_once _ _ _ _ _ _ (omega arith) one.pool other.pool in
    grind (arith, block, gap, window, limit, memory, pool)

pairs_once : (given : List Pair) (a b : Choice) → SaysPairs given a → SaysPairs given b → a ≡ b
pairs_once given a b one other =
    let files : a.files ≡ b.files = files_once given _ _ one.files other.files in
    let sizes : a.sizes ≡ b.sizes = sizes_once given _ _ one.sizes other.sizes in
    let mode : a.mode ≡ b.mode = mode_once _ _ (value_once _ _ _ one.mode other.mode) in
    let id : a.id ≡ b.id = decimal_injective _ _ one.id_range other.id_range (value_once _ _ _ one.id other.id) in
    grind (arith, files, sizes, mode, id)

pub says_once : (words : List (List ℕ)) (a b : Choice) → Says words a → Says words b → a ≡ b
says_once words a b one other = pairs_once (pairs (drop 1 words)) a b one.given other.given

-- so an answer that is right is the only one
pub answered_once : (words : List (List ℕ)) (result : Option Options)
    → IfSome result (λ options. Says words (seen options)) → IfNone result ((choice : Choice) → ¬ Says words choice)
    → (choice : Choice) → Says words choice → option_map seen result ≡ Some choice
answered_once words None found none choice says = absurd (none choice says)
answered_once words (Some options) found none choice says = ap Some (says_once words (seen options) choice found says)
