-- What a command line of `run` says.
use Rattle.std.specs.Prelude.{ℕ, ◌≡◌, ◌≤◌, ◌<◌, ◌%◌, ◌^◌, ◌&&◌, not, Bool, true, List, [], ◌∷◌, codes, decimal, take, drop, Option, Some, None}
use Rattle.std.specs.List.{list_any}
use Rattle.std.specs.Str.{bytes_eq}
use Rattle.fill_bitmap.specs.Area.{IsBlock}
use Rattle.run_words.specs.declared.Mode.{Mode}
use Rattle.run_words.specs.declared.Mode.TheVariants as mode
use Rattle.run_words.specs.declared.Options.{Options}
use Rattle.run_words.specs.Pairs.{Pair, pairs, value_of, are_options}

-- the word of a mode
abbrev pub mode_text : Mode → List ℕ
mode_text mode.Fresh = codes "fresh"
mode_text mode.Resume = codes "resume"

-- an option's number: its value's, in decimal digits without a leading zero, or the default where it
-- isn't given
abbrev pub IsNumber : ℕ → Option (List ℕ) → ℕ → Type 0
IsNumber default None number = number ≡ default
IsNumber default (Some text) number = text ≡ decimal number

-- the same between two bounds
abbrev pub IsNumberIn : ℕ → ℕ → ℕ → Option (List ℕ) → ℕ → Type 0
IsNumberIn least most default value number =
    IsNumber default value number × (least ≤ number) × (number ≤ most)

-- the block's number
abbrev pub SaysBlock : Option (List ℕ) → ℕ → Type 0
SaysBlock value block = IsNumberIn 8 64 16 value block × IsBlock block

-- the memory's number: whole pages of 4096 bytes
abbrev pub SaysMemory : Option (List ℕ) → ℕ → Type 0
SaysMemory value memory = IsNumberIn 4096 16777216 1048576 value memory × (memory % 4096 ≡ 0)

-- no two of these texts are one
abbrev pub are_different : List (List ℕ) → Bool
are_different [] = true
are_different (text ∷ rest) =
    not (list_any (λ other. bytes_eq other text) rest) && are_different rest

-- the names of the five files
pub record FileNames : Type 0 where
  pub image : List ℕ
  pub disk : List ℕ
  pub schedule : List ℕ
  pub report : List ℕ
  pub out : List ℕ

-- the numbers that have a default
pub record Sizes : Type 0 where
  pub block : ℕ
  pub gap : ℕ
  pub window : ℕ
  pub limit : ℕ
  pub memory : ℕ
  pub pool : ℕ

-- what a command line chooses
pub record Choice : Type 0 where
  pub files : FileNames
  pub mode : Mode
  pub id : ℕ
  pub sizes : Sizes

-- what the options of a run choose
abbrev pub seen : Options → Choice
seen o = record {
  files = record {
    image = o.image.now;
    disk = o.disk.now;
    schedule = o.schedule.now;
    report = o.report.now;
    out = o.out.now;
  };
  mode = o.mode;
  id = o.id;
  sizes = record {
    block = o.block;
    gap = o.gap;
    window = o.window;
    limit = o.limit;
    memory = o.memory;
    pool = o.pool;
  };
}

-- the five files are given, under five different names
pub record SaysFiles (given : List Pair) (files : FileNames) : Type 0 where
  pub image : value_of given (codes "--image") ≡ Some files.image
  pub disk : value_of given (codes "--disk") ≡ Some files.disk
  pub schedule : value_of given (codes "--schedule") ≡ Some files.schedule
  pub report : value_of given (codes "--report") ≡ Some files.report
  pub out : value_of given (codes "--out") ≡ Some files.out
  pub different : are_different
      (files.image ∷ files.disk ∷ files.schedule ∷ files.report ∷ files.out ∷ []) ≡ true

-- each of these is given within its bounds, or is its default
pub record SaysSizes (given : List Pair) (sizes : Sizes) : Type 0 where
  pub block : SaysBlock (value_of given (codes "--block")) sizes.block
  pub gap : IsNumberIn 0 65535 4 (value_of given (codes "--gap")) sizes.gap
  pub window : IsNumberIn 1 1024 16 (value_of given (codes "--window")) sizes.window
  pub limit : IsNumberIn 0 65535 8 (value_of given (codes "--limit")) sizes.limit
  pub memory : SaysMemory (value_of given (codes "--memory")) sizes.memory
  pub pool : IsNumberIn 4 16 8 (value_of given (codes "--pool")) sizes.pool

-- the pairs are options, each once, and say this choice
pub record SaysPairs (given : List Pair) (choice : Choice) : Type 0 where
  pub options : are_options given ≡ true
  pub files : SaysFiles given choice.files
  pub mode : value_of given (codes "--mode") ≡ Some (mode_text choice.mode)
  pub id : value_of given (codes "--id") ≡ Some (decimal choice.id)
  pub id_range : choice.id < 2 ^ 64
  pub sizes : SaysSizes given choice.sizes

-- the first word is the command `run`, and the others are pairs that say this choice
pub record Says (words : List (List ℕ)) (choice : Choice) : Type 0 where
  pub command : take 1 words ≡ codes "run" ∷ []
  pub given : SaysPairs (pairs (drop 1 words)) choice
