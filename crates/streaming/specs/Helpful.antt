-- Which turns are helpful, and how many stand before a monitor is ready. Lists of lines have the newest first.
use Rattle.std.specs.Prelude.{ℕ, zero, suc, ◌≡◌, ◌<◌, ◌⊎◌, ◌+◌, ◌*◌, ◌||◌, ◌&&◌, not, Bool, true, false, List, [], ◌∷◌}
use Rattle.ata_taskfile.specs.declared.Step.TheVariants.{Good, Bad}
use Rattle.ata_taskfile.specs.declared.Stepped.TheVariants.{Changed}
use Rattle.schedule_text.specs.declared.Item.{Item}
use Rattle.schedule_text.specs.declared.Item.TheVariants as item
use Rattle.streaming.specs.Lines.{Call, Line}
use Rattle.streaming.specs.Lines.Call.{of_turn, of_step, of_power_on}
use Rattle.streaming.specs.Sources.{is_power_on}
use Rattle.streaming.specs.Open.{IsOpen, is_needed}

-- a turn
abbrev pub is_turn : Call → Bool
is_turn of_turn = true
is_turn other = false

-- the drive was told to make a good step
abbrev pub is_good_step : Call → Bool
is_good_step (of_step Good effect) = true
is_good_step other = false

-- a turn that waits for no tag: none that the guest's command needs is open just before it, over blocks of so many
-- sectors (own)
pub record WaitsForNone (block : ℕ) (line : Line) (lines : List Line) : Type 0 where
  pub turn : is_turn line.call ≡ true
  pub none : (tag : ℕ) → is_needed block tag line.plain ≡ true → ¬ IsOpen tag lines

-- since the last helpful turn of this power-on the drive was told to make a good step: the first turn behind such a
-- step that waits for no tag is helpful, and none stands yet (own)
abbrev pub SteppedWell : ℕ → List Line → Type 0
SteppedWell block [] = ⊥
SteppedWell block (line ∷ lines) = (is_good_step line.call ≡ true)
    ⊎ ((is_power_on line.call ≡ false) × (¬ WaitsForNone block line lines)
    × SteppedWell block lines)

-- a helpful turn: since the last one the drive was told to make a good step, and it waits for no tag (own)
abbrev pub IsHelpful : ℕ → Line → List Line → Type 0
IsHelpful block line lines = WaitsForNone block line lines × SteppedWell block lines

-- a bad step changed the drive, or the power came on (own)
abbrev pub sets_back : Call → Bool
sets_back (of_step Bad Changed) = true
sets_back of_power_on = true
sets_back other = false

-- so many helpful turns stand since then, at least (own)
abbrev pub HasHelpful : ℕ → ℕ → List Line → Type 0
HasHelpful block zero lines = Unit {0}
HasHelpful block (suc n) [] = ⊥
HasHelpful block (suc n) (line ∷ lines) = (sets_back line.call ≡ false)
    × ((IsHelpful block line lines × HasHelpful block n lines)
    ⊎ HasHelpful block (suc n) lines)

-- one of these items tells that the monitor is ready
abbrev pub one_readies : List Item → Bool
one_readies [] = false
one_readies (item.Ready ∷ items) = true
one_readies (other ∷ items) = one_readies items

-- that was told since the power came on (own)
abbrev pub was_ready : List Line → Bool
was_ready [] = false
was_ready (line ∷ lines) =
    one_readies line.items || (not (is_power_on line.call) && was_ready lines)

-- how many helpful turns there are at most until a monitor with so many sectors of bitmap is ready (own)
abbrev pub ready_bound : ℕ → ℕ
ready_bound bitmap = 16 * bitmap + 64

-- as long as it isn't told that the monitor is ready there are fewer helpful turns than the bound: with the one that
-- tells it they are within (own)
abbrev pub IsReadyInTime : ℕ → ℕ → List Line → Type 0
IsReadyInTime block bitmap lines = was_ready lines ≡ false → (n : ℕ) → HasHelpful block n lines
    → n < ready_bound bitmap
