-- The run that the words choose, and what image and disk are like then.
use Rattle.std.specs.Prelude.{ℕ, List}
use Rattle.bm_host.specs.Outside.{Outside}
use Rattle.run_words.specs.Options.{Choice, Says}
use Rattle.bmcast.specs.Lengths.{Finds, Found}

-- the words choose a run, of which this holds
pub record Chosen (words : List (List ℕ)) (P : Choice → Type 0) : Type 0 where
  pub choice : Choice
  pub says : Says words choice
  pub holds : P choice

-- the words choose a run
abbrev pub ChooseARun : List (List ℕ) → Type 0
ChooseARun words = Chosen words (λ choice. Unit {0})

-- they choose a run, and of it and what it finds in image and disk this holds
abbrev pub Chooses : List (List ℕ) → Outside → (Choice → Found → Type 0) → Type 0
Chooses words o P = Chosen words (λ choice. Finds choice o (P choice))
