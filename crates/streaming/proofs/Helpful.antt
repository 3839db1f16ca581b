-- How many helpful turns stand behind one more line, whether a good step came since the last of them, and whether it
-- was told before that line that the monitor is ready.
use Rattle.std.proofs.Common.{◌≡◌, ℕ, zero, suc, Bool, true, false, not, ◌&&◌, List, ◌∷◌, ◌++◌, Option, Some, None, ◌⊎◌, inl, inr, refl, sym, ◌∙◌}
use Rattle.std.specs.Prelude.{◌||◌}
use Rattle.std.proofs.lemmas.Bool.{true≢false}
use Rattle.schedule_text.specs.declared.Item.{Item}
use Rattle.schedule_text.specs.declared.Item.TheVariants.{Answer, Go, Bad, Command, Asked, Ready, Left, Reserved, Forged}
use Rattle.streaming.specs.Helpful.{HasHelpful, IsHelpful, SteppedWell, is_good_step, is_turn, one_readies, sets_back, was_ready}
use Rattle.streaming.specs.Lines.{Line}
use Rattle.streaming.specs.Monitor.{item_of}
use Rattle.streaming.specs.Sources.{is_power_on}
use Rattle.streaming.specs.Told.{tells_ready}

-- a line that sets back leaves none
pub none_behind : (block n : ℕ) (line : Line) (lines : List Line) → sets_back line.call ≡ true
    → HasHelpful block n (line ∷ lines) → n ≡ 0
none_behind block zero line lines back has = refl
none_behind block (suc n) line lines back has = absurd (true≢false (sym back ∙ has.0))

-- one that is no helpful turn adds none
unless_helpful : (block n : ℕ) (line : Line) (lines : List Line) → ¬ IsHelpful block line lines
    → (IsHelpful block line lines × HasHelpful block n lines) ⊎ HasHelpful block (suc n) lines
    → HasHelpful block (suc n) lines
unless_helpful block n line lines other (inl one) = absurd (other one.0)
unless_helpful block n line lines other (inr more) = more

pub none_more : (block n : ℕ) (line : Line) (lines : List Line) → ¬ IsHelpful block line lines
    → HasHelpful block n (line ∷ lines) → HasHelpful block n lines
none_more block zero line lines other has = tt
none_more block (suc n) line lines other has = unless_helpful block n line lines other has.1

-- only a turn is one
pub turns_help : (block : ℕ) (line : Line) (lines : List Line) → is_turn line.call ≡ false
    → ¬ IsHelpful block line lines
turns_help block line lines other helps = true≢false (sym helps.0.turn ∙ other)

-- a good step came before a line that isn't one
pub stepped_before : (block : ℕ) (line : Line) (lines : List Line) → is_good_step line.call ≡ false
    → SteppedWell block (line ∷ lines) → SteppedWell block lines
stepped_before block line lines other (inl good) = absurd (true≢false (sym good ∙ other))
stepped_before block line lines other (inr more) = more.2

neither : (on one before : Bool) → on ≡ false → (one || (not on && before)) ≡ false
    → (one ≡ false) × (before ≡ false)
neither true one before off none = absurd cc
neither false true before off none = absurd cc
neither false false before off none = (refl, none)

-- as long as a monitor isn't told to be ready neither this line nor one before it did
pub unready_before : (line : Line) (lines : List Line) → is_power_on line.call ≡ false
    → was_ready (line ∷ lines) ≡ false → (one_readies line.items ≡ false) × (was_ready lines ≡ false)
unready_before line lines on none =
    neither (is_power_on line.call) (one_readies line.items) (was_ready lines) on none

-- nor does what a turn tells before its requests
pub untold_ready : (told : Option Item) (items : List Item) → one_readies (item_of told ++ items) ≡ false
    → tells_ready told ≡ false
untold_ready None items none = refl
untold_ready (Some Answer) items none = refl
untold_ready (Some (Go n)) items none = refl
untold_ready (Some Bad) items none = refl
untold_ready (Some (Command byte first count)) items none = refl
untold_ready (Some (Asked tag)) items none = refl
untold_ready (Some Ready) items none = none
untold_ready (Some Left) items none = refl
untold_ready (Some Reserved) items none = refl
untold_ready (Some Forged) items none = refl
