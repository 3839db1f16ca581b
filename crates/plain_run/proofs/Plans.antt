-- A plan as a relation, and as a function of where it begins.
use Rattle.std.proofs.Common.{List, [], ◌∷◌}
use Rattle.plain_drive.specs.Plain.{Plain}
use Rattle.plain_drive.specs.Step.{bad_step, went}
use Rattle.schedule_text.specs.declared.Item.{Item}
use Rattle.schedule_text.specs.declared.Item.TheVariants as item
use Rattle.plain_run.specs.Event.{FollowsPlan}
use Rattle.plain_run.specs.Plan.{IsPlanned}

pub followed_is_planned : (items : List Item) (old new : Plain) → FollowsPlan items old new
    → IsPlanned items old new
followed_is_planned [] old new follows = record { acts = tt; after = follows }
followed_is_planned (item.Go n ∷ items) old new follows =
    let rest = followed_is_planned items (went n old) new follows.2 in
    record { acts = (follows.0, follows.1, rest.acts); after = rest.after }
followed_is_planned (item.Bad ∷ items) old new follows =
    let rest = followed_is_planned items (bad_step old) new follows.1 in
    record { acts = (follows.0, rest.acts); after = rest.after }
followed_is_planned (other ∷ items) old new follows =
    let rest = followed_is_planned items old new follows in
    record { acts = rest.acts; after = rest.after }

pub planned_is_followed : (items : List Item) (old new : Plain) → IsPlanned items old new
    → FollowsPlan items old new
planned_is_followed [] old new plan = plan.after
planned_is_followed (item.Go n ∷ items) old new plan = (
  plan.acts.0,
  plan.acts.1,
  planned_is_followed items (went n old) new (record { acts = plan.acts.2; after = plan.after }),
)
planned_is_followed (item.Bad ∷ items) old new plan = (
  plan.acts.0,
  planned_is_followed items (bad_step old) new (record { acts = plan.acts.1; after = plan.after }),
)
planned_is_followed (other ∷ items) old new plan =
    planned_is_followed items old new (record { acts = plan.acts; after = plan.after })
