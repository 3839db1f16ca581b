-- What a plan makes of a plain drive, as a function of what the report says.
use Rattle.std.specs.Prelude.{true, ◌≡◌, ◌≤◌, List, [], ◌∷◌}
use Rattle.ata_taskfile.specs.declared.Step.TheVariants as step
use Rattle.plain_drive.specs.Plain.{Plain}
use Rattle.plain_drive.specs.Step.{AllAct, acts, bad_step, went}
use Rattle.schedule_text.specs.declared.Item.{Item}
use Rattle.schedule_text.specs.declared.Item.TheVariants as item

-- the plain drive after the plan items among these: each makes its steps, one after the other
abbrev pub planned : List Item → Plain → Plain
planned [] p = p
planned (item.Go n ∷ items) p = planned items (went n p)
planned (item.Bad ∷ items) p = planned items (bad_step p)
planned (other ∷ items) p = planned items p

-- each of their steps has an effect, and `p go` says one step at least
abbrev pub ActsAlong : List Item → Plain → Type 0
ActsAlong [] p = Unit {0}
ActsAlong (item.Go n ∷ items) p = (1 ≤ n) × AllAct n p × ActsAlong items (went n p)
ActsAlong (item.Bad ∷ items) p = (acts step.Bad p ≡ true) × ActsAlong items (bad_step p)
ActsAlong (other ∷ items) p = ActsAlong items p

-- the plan leads from old to new: its steps act, and new is where they end
pub record IsPlanned (items : List Item) (old new : Plain) : Type 0 where
  pub acts : ActsAlong items old
  pub after : new ≡ planned items old
